-- Laws of lent messages: reading one gives what the lent one becomes.
use Rattle.std.proofs.Common.{rules, ◌≡◌, ◌-◌, ℕ, Bool, true, false, ltb, List}
use Rattle.std.proofs.Common.{length, take, drop, Result, Ok, Err, refl, ap, ◌∙◌}
use Rattle.std.specs.Prelude.{IsErr, if◌then◌else◌}
use Rattle.neli_wire.specs.Bytes.{short}
use Rattle.neli_wire.specs.declared.errors.DeError.{DeError}
use Rattle.neli_wire.specs.declared.errors.DeError.TheVariants.{InvalidInput}
use Rattle.neli_wire.specs.Frames.{frame_at}
use Rattle.neli_wire.specs.Reading.{◌>>=◌}
use Rattle.neli_wire.specs.Sizes.{align}
use Rattle.neli_wire.specs.laws.Reading.{ok_is}
use Rattle.neli_reader.specs.Headers.{header_in}
use Rattle.neli_reader.specs.Kinds.{payload_in}
use Rattle.neli_reader.specs.Messages.{message_layout}
use Rattle.neli_lent.specs.Messages.{Lent, lent_message, owned_reading}

abbrev done : {A : Type 0} → A → Result A DeError
done x = Ok x

regroup : {H V R : Type 0} (h : H) (r : R) (p : Result V DeError)
    → (p >>= λ v. done {A = (H × V) × R} ((h, v), r)) ≡
    ((p >>= λ v. done {A = H × V} (h, v)) >>= λ m. done {A = (H × V) × R} (m, r))
regroup h r (Ok v) = refl
regroup h r (Err e) = refl

abbrev guards : {X : Type 0} → Bool → Bool → Bool → Bool → DeError → DeError → DeError → DeError → X → Result X DeError
guards a b c d e1 e2 e3 e4 x = if a then Err e1 else (if b then Err e2
    else (if c then Err e3 else (if d then Err e4 else Ok x)))

-- no guard holds if a value is read
pub record Pass {X : Type 0} (a b c d : Bool) (x y : X) : Type 0 where
  pub first : a ≡ false
  pub second : b ≡ false
  pub third : c ≡ false
  pub fourth : d ≡ false
  pub value : x ≡ y

passed : {X : Type 0} (a b c d : Bool) (e1 e2 e3 e4 : DeError) (x y : X) → guards a b c d e1 e2 e3 e4 x ≡ Ok y
    → Pass a b c d x y
passed true b c d e1 e2 e3 e4 x y is = absurd cc
passed false true c d e1 e2 e3 e4 x y is = absurd cc
passed false false true d e1 e2 e3 e4 x y is = absurd cc
passed false false false true e1 e2 e3 e4 x y is = absurd cc
passed false false false false e1 e2 e3 e4 x y is = record {
  first = refl;
  second = refl;
  third = refl;
  fourth = refl;
  value = ok_is x y is;
}

-- each guard that refuses lending refuses the reading, or its payload is refused before
refused-by : {X Y V : Type 0} (a b c d : Bool) (e1 e2 e3 e4 e : DeError) (x : X) (p : Result V DeError) (of : V → Y)
    → guards a b c d e1 e2 e3 e4 x ≡ Err e → IsErr (if a then Err e1
    else (if b then Err e2 else (if c then Err e3 else (p >>= λ v. (if d then Err e4 else Ok (of v))))))
refused-by true b c d e1 e2 e3 e4 e x p of is = search rules
refused-by false true c d e1 e2 e3 e4 e x p of is = search rules
refused-by false false true d e1 e2 e3 e4 e x p of is = search rules
refused-by false false false true e1 e2 e3 e4 e x (Ok v) of is = search rules
refused-by false false false true e1 e2 e3 e4 e x (Err f) of is = search rules
refused-by false false false false e1 e2 e3 e4 e x p of is = absurd cc

module _ {K V : Type 0} (type_of : ℕ → K) (number_of : K → ℕ) (read : List ℕ → Result V DeError) where
  pub owned-read : (s r : List ℕ) (m : Lent K) → frame_at (lent_message type_of) s ≡ Ok (m, r)
      → frame_at (message_layout type_of number_of read) s ≡ owned_reading type_of number_of read m r
  unfolding frame_at
  owned-read s r m e =
      let h = header_in type_of s in
      let body = take (h.len - 16) (drop 16 s) in
      let end = drop (align h.len) s in
      let pass = passed (ltb (length s) 16) (ltb h.len 16) (ltb (length s) h.len) (ltb (length s) (align h.len)) short
      (InvalidInput h.len) (InvalidInput (h.len - 16)) short ((h, body), end) (m, r) e in
      let payload = payload_in type_of read (number_of h.message_type) h.flags body in
      rw (pass.first, pass.second, pass.third, pass.fourth) (regroup h end payload
      ∙ ap (λ (p : Lent K × List ℕ). owned_reading type_of number_of read p.0 p.1) pass.value)

  pub owned-refused : (s : List ℕ) (e : DeError) → frame_at (lent_message type_of) s ≡ Err e
      → IsErr (frame_at (message_layout type_of number_of read) s)
  unfolding frame_at
  owned-refused s e is =
      let h = header_in type_of s in
      let body = take (h.len - 16) (drop 16 s) in
      let end = drop (align h.len) s in
      refused-by (ltb (length s) 16) (ltb h.len 16) (ltb (length s) h.len) (ltb (length s) (align h.len)) short
      (InvalidInput h.len) (InvalidInput (h.len - 16)) short e ((h, body), end)
      (payload_in type_of read (number_of h.message_type) h.flags body) (λ v. ((h, v), end)) is
