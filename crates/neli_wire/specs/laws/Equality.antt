-- The comparison that an enum derives is true exactly where two values are equal, if its variants' comparisons
-- distinguish their fields.
use Rattle.std.specs.Prelude.{◌≡◌, Bool, true, false, List, [], ◌∷◌, refl}
use Rattle.std.specs.Cmp.{IsEquivalence}
use Rattle.std.specs.Cmp.Derive.{of_values}
use mathlib.Core.Path.{sym, ap, ◌∙◌}
use mathlib.Core.Bool.{true≢false}
use mathlib.Core.Logic.{inl, inr}
use Rattle.neli_wire.specs.Constants.{IsEquality}
use denote.Struct.Field.{Field}
use denote.Struct.Values.{Values}
use denote.Enum.Declared.{Record, Choice, values_one}
use denote.Enum.Compared.{Each, by}

-- each variant with fields has a comparison that distinguishes them
abbrev pub TellApart : (Fss : List (List Field)) → Each Bool Fss → Type 0
TellApart [] each = Unit {0}
TellApart ([] ∷ Fss) each = TellApart Fss each.1
TellApart ((F ∷ Fs) ∷ Fss) each = ((x y : Values (F ∷ Fs)) → each.0 x y ≡ true → x ≡ y) × TellApart Fss each.1

-- then two choices of variant and fields that compare equal are one
one_choice : (Fss : List (List Field)) (each : Each Bool Fss) → TellApart Fss each → (c d : Choice Fss)
    → by false false Fss each c d ≡ true → c ≡ d
one_choice [] each apart c d e = absurd c
one_choice ([] ∷ Fss) each apart (inl x) (inl y) e = refl
one_choice ([] ∷ Fss) each apart (inl x) (inr y) e = absurd (true≢false (sym e))
one_choice ([] ∷ Fss) each apart (inr x) (inl y) e = absurd (true≢false (sym e))
one_choice ([] ∷ Fss) each apart (inr x) (inr y) e = ap inr (one_choice Fss each.1 apart x y e)
one_choice ((F ∷ Fs) ∷ Fss) each apart (inl x) (inl y) e = ap inl (apart.0 x y e)
one_choice ((F ∷ Fs) ∷ Fss) each apart (inl x) (inr y) e = absurd (true≢false (sym e))
one_choice ((F ∷ Fs) ∷ Fss) each apart (inr x) (inl y) e = absurd (true≢false (sym e))
one_choice ((F ∷ Fs) ∷ Fss) each apart (inr x) (inr y) e = ap inr (one_choice Fss each.1 apart.1 x y e)

-- an equivalence that distinguishes values is equality
pub equality : {T : Type 0} {eq : T → T → Bool} → IsEquivalence eq → ((a b : T) → eq a b ≡ true → a ≡ b) → IsEquality eq
equality {T} {eq} laws apart a b = (apart a b, λ e. sym (ap (eq a) e) ∙ laws.refl a)

-- so is an enum's derived comparison, if it distinguishes the fields
pub derived-equality : (N : Record) (each : Each Bool N.parts) → IsEquivalence (of_values N false false each)
    → TellApart N.parts each → IsEquality (of_values N false false each)
derived-equality N each laws apart =
    equality laws (λ a b e. values_one N a b (one_choice N.parts each apart (N.as_values a) (N.as_values b) e))
