-- A dump that grows is read as its messages, and keeps its limit.
use Rattle.std.proofs.Common.{◌≡◌, ℕ, ◌+◌, ◌≤◌, Bool, true, false, cond, List, [], ◌∷◌, ◌++◌, length}
use Rattle.std.proofs.Common.{Some, None, Ok, Err, refl, sym, ap, subst, ◌∙◌, append_assoc, arith, length-append}
use Rattle.std.specs.Prelude.{All, codes, nat_lt, Result}
use Rattle.std.proofs.lemmas.Bool.{ltb-false}
use Rattle.std.proofs.lemmas.List.{append-nil}
use Rattle.std.proofs.lemmas.List.Concat.{flat_map-append}
use Rattle.std.proofs.lemmas.List.Elements.{All-nil, All-pop, All-push}
use Rattle.neli_wire.specs.declared.errors.SerError.{SerError}
use Rattle.neli_wire.specs.declared.errors.SerError.TheVariants as ser
use Rattle.neli_reader.specs.Cuts.{Cut, messages_before}
use Rattle.neli_reader.specs.laws.Cuts.{cut_of-end, cut_of-join}
use Rattle.neli_reader.specs.laws.Messages.{layout_with-placed}
use Rattle.neli_lent.specs.Messages.{Lent, lent_message, messages_in}
use Rattle.neli_kernel.specs.Datagrams.{AreRead, AreWithin, HasNoFault, messages_of}
use Rattle.neli_kernel.specs.Dumps.{Packed, begun, datagrams_of, put, put_wire}

-- ---- bytes that are joined

abbrev same : ℕ → ℕ
same n = n

messages_in-join : (a b : List ℕ) → HasNoFault a → messages_in same (a ++ b)
    ≡ messages_before (messages_in same a).0 (messages_in same b)
unfolding messages_in
messages_in-join a b whole = cut_of-join (lent_message same) (layout_with-placed same _) (omega arith) a b whole

messages_in-end : messages_in same [] ≡ ([], None)
unfolding messages_in
messages_in-end = cut_of-end (lent_message same) (layout_with-placed same _) (omega arith)

-- ---- lists of datagrams

-- a property of all holds of the last one, and of those before it
All-last : {A : Type 0} (P : A → Type 0) (xs : List A) (y : A) → All P (xs ++ y ∷ []) → All P xs × P y
All-last P xs y h = All-pop P (xs ++ y ∷ []) xs (Some y) refl h

messages_of-last : (ds : List (List ℕ)) (d : List ℕ) → messages_of (ds ++ d ∷ [])
    ≡ messages_of ds ++ (messages_in same d).0
messages_of-last ds d =
    flat_map-append (λ (x : List ℕ). (messages_in same x).0) ds (d ∷ [])
    ∙ ap (λ (ms : List (Lent ℕ)). messages_of ds ++ ms) (append-nil (messages_in same d).0)

-- ---- a message more

module _ (frame : List ℕ) (m : Lent ℕ) (one : messages_in same frame ≡ (m ∷ [], None)) where
  -- the messages of a cut without a fault
  said : (messages_in same frame).0 ≡ m ∷ []
  said = ap (λ (c : Cut (Lent ℕ)). c.0) one

  whole : HasNoFault frame
  whole = ap (λ (c : Cut (Lent ℕ)). c.1) one

  -- in the next datagram
  next-read : (ds : List (List ℕ)) (ms : List (Lent ℕ)) → AreRead ds ms → AreRead (ds ++ frame ∷ []) (ms ++ m ∷ [])
  next-read ds ms r = (
    messages_of-last ds frame ∙ ap (λ (xs : List (Lent ℕ)). messages_of ds ++ xs) said
        ∙ ap (λ (xs : List (Lent ℕ)). xs ++ m ∷ []) r.0,
    All-push HasNoFault ds frame r.1 whole,
  )

  -- behind those of the last one
  behind-read : (full : List (List ℕ)) (last : List ℕ) (ms : List (Lent ℕ)) → AreRead (full ++ last ∷ []) ms
      → AreRead (full ++ (last ++ frame) ∷ []) (ms ++ m ∷ [])
  behind-read full last ms r =
      let parts = All-last HasNoFault full last r.1 in
      let joined : messages_in same (last ++ frame) ≡ ((messages_in same last).0 ++ m ∷ [], None) =
      messages_in-join last frame parts.1 ∙ ap (messages_before (messages_in same last).0) one in
      let list : messages_of (full ++ (last ++ frame) ∷ [])
      ≡ messages_of full ++ ((messages_in same last).0 ++ m ∷ []) =
      messages_of-last full (last ++ frame) ∙ ap (λ (c : Cut (Lent ℕ)). messages_of full ++ c.0) joined in
      let before : messages_of full ++ (messages_in same last).0 ≡ ms = sym (messages_of-last full last) ∙ r.0 in (
        list ∙ sym (append_assoc (messages_of full) (messages_in same last).0 (m ∷ []))
            ∙ ap (λ (xs : List (Lent ℕ)). xs ++ m ∷ []) before,
        All-push HasNoFault full (last ++ frame) parts.0 (ap (λ (c : Cut (Lent ℕ)). c.1) joined),
      )

  put-read_by : (b : Bool) (p : Packed) (ms : List (Lent ℕ)) → AreRead (datagrams_of p) ms
      → AreRead (datagrams_of (cond b (datagrams_of p, frame) (p.0, p.1 ++ frame))) (ms ++ m ∷ [])
  put-read_by true p ms r = next-read (datagrams_of p) ms r
  put-read_by false p ms r = behind-read p.0 p.1 ms r

  put-read : (limit : ℕ) (p : Packed) (ms : List (Lent ℕ)) → AreRead (datagrams_of p) ms
      → AreRead (datagrams_of (put limit frame p)) (ms ++ m ∷ [])
  put-read limit p ms r = put-read_by (nat_lt limit (length p.1 + length frame)) p ms r

-- ---- the result of a put

abbrev placed_by : Bool → Packed → Result Packed SerError
placed_by b q = cond b (Err (ser.Msg (codes "Message does not fit a datagram"))) (Ok q)

placed_is : (b : Bool) (p q : Packed) → placed_by b p ≡ Ok q → (b ≡ false) × (p ≡ q)
placed_is true p q e = absurd cc
placed_is false p q e = (refl, cc)

-- a message that was put there is read behind the others
pub put_wire-read : (limit : ℕ) (frame : List ℕ) (m : Lent ℕ) (p q : Packed) (ms : List (Lent ℕ))
    → messages_in same frame ≡ (m ∷ [], None) → put_wire limit (Ok frame) p ≡ Ok q → AreRead (datagrams_of p) ms
    → AreRead (datagrams_of q) (ms ++ m ∷ [])
put_wire-read limit frame m p q ms one is r =
    let placed = placed_is (nat_lt limit (length frame)) (put limit frame p) q is in
    subst (λ (x : Packed). AreRead (datagrams_of x) (ms ++ m ∷ [])) placed.1 (put-read frame m one limit p ms r)

put-within : (b : Bool) (limit : ℕ) (frame : List ℕ) (p : Packed) → nat_lt limit (length p.1 + length frame) ≡ b
    → length frame ≤ limit → AreWithin limit (datagrams_of p)
    → AreWithin limit (datagrams_of (cond b (datagrams_of p, frame) (p.0, p.1 ++ frame)))
put-within true limit frame p is fits all = All-push (λ (d : List ℕ). length d ≤ limit) (datagrams_of p) frame all fits
put-within false limit frame p is fits all =
    let parts = All-last (λ (d : List ℕ). length d ≤ limit) p.0 p.1 all in
    let le = ltb-false _ _ is in
    All-push (λ (d : List ℕ). length d ≤ limit) p.0 (p.1 ++ frame) parts.0 (omega (arith, length-append p.1 frame))

-- and the limit is kept
pub put_wire-within : (limit : ℕ) (frame : List ℕ) (p q : Packed) → put_wire limit (Ok frame) p ≡ Ok q
    → AreWithin limit (datagrams_of p) → AreWithin limit (datagrams_of q)
put_wire-within limit frame p q is all =
    let placed = placed_is (nat_lt limit (length frame)) (put limit frame p) q is in
    let fits : length frame ≤ limit = (let le = ltb-false _ _ placed.0 in omega arith) in
    subst (λ (x : Packed). AreWithin limit (datagrams_of x)) placed.1
    (put-within (nat_lt limit (length p.1 + length frame)) limit frame p refl fits all)

-- ---- a datagram more

pub begun-read : (p : Packed) (ms : List (Lent ℕ)) → AreRead (datagrams_of p) ms → AreRead (datagrams_of (begun p)) ms
begun-read (full, []) ms r = r
begun-read (full, b ∷ last) ms r =
    let ds : List (List ℕ) = full ++ (b ∷ last) ∷ [] in (
      messages_of-last ds [] ∙ ap (λ (c : Cut (Lent ℕ)). messages_of ds ++ c.0) messages_in-end
          ∙ append-nil (messages_of ds) ∙ r.0,
      All-push HasNoFault ds [] r.1 (ap (λ (c : Cut (Lent ℕ)). c.1) messages_in-end),
    )

pub begun-within : (limit : ℕ) (p : Packed) → AreWithin limit (datagrams_of p)
    → AreWithin limit (datagrams_of (begun p))
begun-within limit (full, []) all = all
begun-within limit (full, b ∷ last) all = All-push (λ (d : List ℕ). length d ≤ limit) (full ++ (b ∷ last) ∷ []) [] all
    (omega arith)

pub nothing-read : AreRead (datagrams_of ([], [])) []
nothing-read = (
  ap (λ (c : Cut (Lent ℕ)). c.0 ++ []) messages_in-end,
  All-push HasNoFault [] [] (All-nil HasNoFault) (ap (λ (c : Cut (Lent ℕ)). c.1) messages_in-end),
)

pub nothing-within : (limit : ℕ) → AreWithin limit (datagrams_of ([], []))
nothing-within limit = All-push (λ (d : List ℕ). length d ≤ limit) [] [] (All-nil (λ (d : List ℕ). length d ≤ limit))
    (omega arith)
