-- What the holes of a line write.
use Rattle.std.proofs.Common.{◌≡◌, ℕ, ◌^◌, ◌-◌, false, List, [], ◌++◌, length, replicate, refl, ap, ◌∙◌, arith}
use Rattle.std.proofs.lemmas.List.{append-nil}
use Rattle.std.specs.Fmt.{digits, padded_integral, format_spec, char_count}
use Rattle.neli_program.specs.Lines.{hex4}

no_text : char_count [] ≡ 0
unfolding char_count
no_text = refl

pub hex4_is : (n : ℕ) → padded_integral (format_spec 32 0 4 4 (2 ^ 64 - 1)) false [] (digits 16 false n) ≡ hex4 n
unfolding padded_integral hex4
hex4_is n =
    let d : List ℕ = digits 16 false n in
    let zeros : 4 - length d - 0 - char_count [] ≡ 4 - length d = omega (arith, no_text) in
    ap (λ (k : ℕ). replicate k 48 ++ (d ++ [])) zeros ∙ ap (λ (xs : List ℕ). replicate (4 - length d) 48 ++ xs)
    (append-nil d)
