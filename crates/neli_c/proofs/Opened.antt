-- What a call does to a value on the heap, said of what C holds: a router, or a dump.
use Rattle.std.proofs.Common.{◌≡◌, ℤ, Option, Some, IfSome, IsSome, SFits, of_z, to_z, w32, refl, sym, subst}
use Rattle.std.proofs.lemmas.Int.{to_z-of_z}

-- a value was taken out of `o`, changed with this code, and put into `n`
pub carried : {S : Type 0} (P : ℤ → S → S → Type 0) (code : ℤ) (o n : Option S) (s u t : S) → SFits w32 code
    → Some s ≡ o → u ≡ s → n ≡ Some t → P code u t
    → IfSome o (λ s. IsSome n × IfSome n (P (to_z w32 (of_z w32 code)) s))
carried {S = S} P code o n s u t fits taken same put p =
    let q : P (to_z w32 (of_z w32 code)) s t = subst (λ (z : ℤ). P z s t) (sym (to_z-of_z w32 code fits))
    (subst (λ (x : S). P code x t) same p) in
    subst (λ (o : Option S). IfSome o (λ s. IsSome n × IfSome n (P (to_z w32 (of_z w32 code)) s))) taken
    (subst (λ (n : Option S). IsSome n × IfSome n (P (to_z w32 (of_z w32 code)) s)) (sym put) (refl, q))

-- the same without a code
pub carried-along : {S : Type 0} (P : S → S → Type 0) (o n : Option S) (s u t : S) → Some s ≡ o → u ≡ s
    → n ≡ Some t → P u t → IfSome o (λ s. IfSome n (λ t. P s t))
carried-along {S = S} P o n s u t taken same put p =
    let q : P s t = subst (λ (x : S). P x t) same p in
    subst (λ (o : Option S). IfSome o (λ s. IfSome n (λ t. P s t))) taken
    (subst (λ (n : Option S). IfSome n (λ t. P s t)) (sym put) q)
