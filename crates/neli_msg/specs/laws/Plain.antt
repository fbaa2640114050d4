-- Messages with payloads of plain bytes are refused only for a length, or for missing bytes.
use Rattle.std.proofs.Common.{◌≡◌, ℕ, zero, suc, ◌-◌, Bool, true, false, cond, ltb, List}
use Rattle.std.proofs.Common.{[], ◌∷◌, length, take, drop, Result, Ok, Err, refl, subst}
use Rattle.neli_wire.specs.Bytes.{Reading, short}
use Rattle.neli_wire.specs.declared.errors.DeError.{DeError}
use Rattle.neli_wire.specs.declared.errors.DeError.TheVariants.{InvalidInput}
use Rattle.neli_wire.specs.Frames.{Layout, frame_at}
use Rattle.neli_wire.specs.Reading.{◌>>=◌, is_short, map_refusal, refusal_within}
use Rattle.neli_wire.specs.Sizes.{align}
use Rattle.neli_wire.specs.laws.Elements.{elements_by}
use Rattle.neli_consts.specs.NlmsgerrAttr.{nlmsgerr_attr_of}
use Rattle.neli_attr.specs.Attributes.{attribute, attributes_in}
use Rattle.neli_attr.specs.TypeField.{type_of}
use Rattle.neli_msg.specs.declared.kind.Kind.{Kind}
use Rattle.neli_msg.specs.declared.kind.Kind.TheVariants.{Body, Nothing, DumpEnd, Acknowledgement, Capped, Failure}
use Rattle.neli_msg.specs.Answers.{after, after_echo, dump_end_in, echoed_count, echoed_in}
use Rattle.neli_msg.specs.Answers.{echoed_length, ext_ack_in, failure_in, headed_in, tail_in}
use Rattle.neli_msg.specs.declared.kind.Tail.{Tail}
use Rattle.neli_msg.specs.declared.kind.Tail.TheVariants.{Unread, Attributes as Listed}
use Rattle.neli_msg.specs.Kinds.{kind_of, payload_as}
use Rattle.neli_msg.specs.Messages.{message_layout}

module _ (Q : DeError → Type 0) (missing : Q short) (lengths : (n : ℕ) → Q (InvalidInput n)) where
  -- each of its refusals is one of these
  abbrev Only : {A : Type 0} → Result A DeError → Type 0
  Only r = (e : DeError) → r ≡ Err e → Q e

  only-guard : {A : Type 0} (b : Bool) (d : DeError) (r : Result A DeError) → Q d → Only r → Only (cond b (Err d) r)
  only-guard true d r q more e is = let same : d ≡ e = cc in subst Q same q
  only-guard false d r q more e is = more e is

  only-then : {A B : Type 0} (r : Result A DeError) (f : A → Result B DeError) → Only r → ((x : A) → Only (f x))
      → Only (r >>= f)
  only-then (Ok x) f first later e is = later x e is
  only-then (Err d) f first later e is = let same : d ≡ e = cc in subst Q same (first d refl)

  -- ---- frames and lists of them

  only-frame : {H V : Type 0} (layout : Layout H V) → ((h : H) (s : List ℕ) → Only (layout.payload_of h s))
      → (s : List ℕ) → Only (frame_at layout s)
  unfolding frame_at
  only-frame layout payloads s =
      let h = layout.header_of s in
      let n = layout.length_of h in
      only-guard (ltb (length s) layout.size) short _ missing
      (only-guard (ltb n layout.size) (InvalidInput n) _ (lengths n)
      (only-guard (ltb (length s) n) (InvalidInput (n - layout.size)) _ (lengths (n - layout.size))
      (only-then (layout.payload_of h (take (n - layout.size) (drop layout.size s))) _ (payloads h
      (take (n - layout.size) (drop layout.size s)))
      (λ v. only-guard (ltb (length s) (align n)) short _ missing (λ e is. absurd cc)))))

  only-test : {A : Type 0} (b : Bool) (r : Result A DeError) (d : DeError) → Only r → Q d → Only (cond b r (Err d))
  only-test true r d more q e is = more e is
  only-test false r d more q e is = let same : d ≡ e = cc in subst Q same q

  only-elements : {V : Type 0} (read : List ℕ → Reading V) (stuck : DeError) → Q stuck → ((s : List ℕ) → Only (read s))
      → (fuel : ℕ) (s : List ℕ) → Only (elements_by read stuck fuel s)
  unfolding elements_by
  only-elements read stuck q each zero [] e is = absurd cc
  only-elements read stuck q each (suc fuel) [] e is = absurd cc
  only-elements read stuck q each zero (b ∷ s) e is = let same : stuck ≡ e = cc in subst Q same q
  only-elements read stuck q each (suc fuel) (b ∷ s) e is =
      only-then (read (b ∷ s)) _ (each (b ∷ s))
      (λ p. only-test (ltb (length p.1) (suc (length s)))
      (elements_by read stuck fuel p.1 >>= λ more. Ok (p.0 ∷ more)) stuck
      (only-then (elements_by read stuck fuel p.1) _ (only-elements read stuck q each fuel p.1)
      (λ more d no. absurd cc)) q) e is

  only-within : (n : ℕ) (b : Bool) (d : DeError) → Q d → Q (cond b (InvalidInput n) d)
  only-within n true d q = lengths n
  only-within n false d q = q

  only-map : {A : Type 0} (n : ℕ) (r : Result A DeError) → Only r → Only (map_refusal (refusal_within n) r)
  only-map n (Ok x) more e is = absurd cc
  only-map n (Err d) more e is = let same : refusal_within n d ≡ e = cc in
      subst Q same (only-within n (is_short d) d (more d refl))

  only-attributes : (s : List ℕ) → Only (ext_ack_in s)
  only-attributes s =
      let read = frame_at (attribute (type_of nlmsgerr_attr_of) (λ bytes. Ok bytes)) in
      only-then (attributes_in (type_of nlmsgerr_attr_of) s) _
      (only-map (length s) (elements_by read (InvalidInput (length s)) (length s) s)
      (only-elements read (InvalidInput (length s)) (lengths (length s))
      (only-frame (attribute (type_of nlmsgerr_attr_of) (λ bytes. Ok bytes)) (λ h t e is. absurd cc)) (length s) s))
      (λ attrs e is. absurd cc)

  -- ---- payloads and messages

  only-after : (n : ℕ) (s : List ℕ) → Only (after n s)
  only-after n s = only-guard (ltb (length s) n) (InvalidInput (length s)) _ (lengths (length s)) (λ e is. absurd cc)

  only-echoed : (s : List ℕ) → Only (echoed_in s)
  only-echoed s =
      only-guard (ltb (echoed_length s) 16) (InvalidInput (echoed_length s)) _ (lengths (echoed_length s))
      (only-guard (ltb (length s - 20) (echoed_count s)) (InvalidInput (echoed_count s)) _ (lengths (echoed_count s))
      (λ e is. absurd cc))

  only-tail : (tail : Tail) (s : List ℕ) → Only (tail_in tail s)
  only-tail Unread s e is = absurd cc
  only-tail Listed s e is = only-attributes s e is

  only-headed : {K : Type 0} (of : ℕ → K) (tail : Tail) (s : List ℕ) → Only (headed_in of tail s)
  only-headed of tail s =
      only-then (after 20 s) _ (only-after 20 s) (λ rest. only-then (tail_in tail rest) _ (only-tail tail rest)
      (λ attrs d no. absurd cc))

  only-payload : {K : Type 0} (of : ℕ → K) (kind : Kind) (s : List ℕ) → Only (payload_as of (λ bytes. Ok bytes) kind s)
  only-payload of Body s e is = absurd cc
  only-payload of Nothing s e is = absurd cc
  only-payload of DumpEnd s e is =
      only-then (dump_end_in s) _ (only-then (after 4 s) _ (only-after 4 s)
      (λ rest. only-then (ext_ack_in rest) _ (only-attributes rest) (λ attrs d no. absurd cc)))
      (λ x d no. absurd cc) e is
  only-payload of (Acknowledgement tail) s e is = only-then (headed_in of tail s) _ (only-headed of tail s)
      (λ x d no. absurd cc) e is
  only-payload of (Capped tail) s e is = only-then (headed_in of tail s) _ (only-headed of tail s)
      (λ x d no. absurd cc) e is
  only-payload of Failure s e is =
      only-then (failure_in of (λ bytes. Ok bytes) s) _
      (only-then (after 20 s) _ (only-after 20 s) (λ rest.
      only-then (echoed_in s) _ (only-echoed s) (λ body.
      only-then (ext_ack_in (after_echo s)) _ (only-attributes (after_echo s)) (λ attrs d no. absurd cc))))
      (λ x d no. absurd cc) e is

  pub only-message : {K : Type 0} (of : ℕ → K) (number_of : K → ℕ) (s : List ℕ)
      → Only (frame_at (message_layout of number_of (λ bytes. Ok bytes)) s)
  only-message of number_of =
      only-frame (message_layout of number_of (λ bytes. Ok bytes))
      (λ h s. only-payload of (kind_of (number_of h.message_type) h.flags s) s)
