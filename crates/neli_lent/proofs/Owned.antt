-- A payload that is read whole.
use Rattle.std.proofs.Common.{◌≡◌, ℕ, false, ltb, List, length, take, drop, Result}
use Rattle.std.proofs.Common.{Ok, Err, refl, sym, ap, subst, ◌∙◌, arith}
use Rattle.std.specs.Prelude.{IfErr, IsErrAnd}
use Rattle.std.proofs.lemmas.Bool.{le-ltb}
use Rattle.std.proofs.lemmas.List.{take_all}
use Rattle.neli_wire.specs.declared.errors.DeError.{DeError}
use Rattle.neli_wire.specs.declared.errors.DeError.TheVariants as de
use Rattle.neli_wire.specs.Reading.{◌>>=◌, exact_reading, exact_takes_memory}
use Rattle.neli_wire.specs.Refusals.{Refuses}
use Rattle.neli_wire.specs.laws.Reading.{bind_ok, ok_is}

-- reading as many bytes as there are reads them all
pub whole-value : {V : Type 0} (read : List ℕ → Result V DeError) (n : ℕ) (at s left : List ℕ) (v : V) → at ≡ s
    → n ≡ length s → exact_reading read n at ≡ Ok (v, left) → read s ≡ Ok v
whole-value {V} read n at s left v is len e =
    let enough : ltb (length s) n ≡ false = le-ltb (length s) n (omega arith) in
    let all : take n s ≡ s = take_all n s (omega arith) in
    let whole : exact_reading read n s ≡ (read s >>= λ x. Ok (x, drop n s)) = rw (enough, all) refl in
    let b = bind_ok (read s) (λ x. Ok (x, drop n s)) (v, left) (sym whole ∙ ap (exact_reading read n) (sym is) ∙ e) in
    let first : V × List ℕ → V = λ p. p.0 in
    b.1 ∙ ap (λ (x : V). Ok x) (ap first (ok_is (b.0, drop n s) (v, left) b.2))

-- a refusal of the part that is read first is that of the whole
err-of : {V W : Type 0} (r : Result V DeError) (f : V → W) (e : DeError)
    → ◌≡◌ {A = Result W DeError} (r >>= λ x. Ok (f x)) (Err e) → r ≡ Err e
err-of (Ok x) f e is = absurd cc
err-of (Err d) f e is = let same : d ≡ e = cc in ap (λ (x : DeError). Err x) same

err-to : {V W : Type 0} (r : Result V DeError) (f : V → W) (e : DeError) → r ≡ Err e
    → ◌≡◌ {A = Result W DeError} (r >>= λ x. Ok (f x)) (Err e)
err-to r f e is = rw is refl

module _ {H V : Type 0} (read : List ℕ → Result V DeError) (takes : List ℕ
    → Type 0) (n : ℕ) (s : List ℕ) (len : n ≡ length s) (h : H) where
  whole : exact_reading read n s ≡ (read s >>= λ x. Ok (x, drop n s))
  whole =
      let enough : ltb (length s) n ≡ false = le-ltb (length s) n (omega (arith, len)) in
      let all : take n s ≡ s = take_all n s (omega (arith, len)) in
      rw (enough, all) refl

  refused-by : (e : DeError) → exact_reading read n s ≡ Err e
      → ◌≡◌ {A = Result (H × V) DeError} (read s >>= λ p. Ok (h, p)) (Err e)
  refused-by e is = err-to (read s) (λ p. (h, p)) e (err-of (read s) (λ x. (x, drop n s)) e (sym whole ∙ is))

  refuses-whole : (e : DeError) → Refuses (exact_reading read n s) (exact_takes_memory takes n s) e
      → Refuses {A = H × V} (read s >>= λ p. Ok (h, p)) (takes s) e
  refuses-whole de.Memory is = subst takes (take_all n s (omega (arith, len))) is.1
  refuses-whole (de.Msg m) is = refused-by (de.Msg m) is
  refuses-whole (de.Io k) is = refused-by (de.Io k) is
  refuses-whole (de.Utf8 u) is = refused-by (de.Utf8 u) is
  refuses-whole (de.InvalidInput k) is = refused-by (de.InvalidInput k) is

-- a payload that is read whole is refused as its bytes are, and so is the message with it
pub whole-refused : {H V B : Type 0} (read : List ℕ → Result V DeError) (takes : List ℕ
    → Type 0) (n : ℕ) (at s : List ℕ) (h : H) (r : Result B DeError) (e : DeError) → at ≡ s → n ≡ length s
    → IsErrAnd r (λ d. d ≡ e) → Refuses (exact_reading read n at) (exact_takes_memory takes n at) e
    → IfErr r (Refuses {A = H × V} (read s >>= λ p. Ok (h, p)) (takes s))
whole-refused read takes n at s h (Ok x) e is len same refused = tt
whole-refused {H = H} {V = V} read takes n at s h (Err d) e is len same refused =
    let here : Refuses (exact_reading read n s) (exact_takes_memory takes n s) e =
    subst (λ (x : List ℕ). Refuses (exact_reading read n x) (exact_takes_memory takes n x) e) is refused in
    subst (λ (x : DeError). Refuses {A = H × V} (read s >>= λ p. Ok (h, p)) (takes s) x) (sym same)
    (refuses-whole read takes n s len h e here)
