use Rattle.std.proofs.Common.{◌≡◌, ℕ, Bool, List, Some, None, Option, ap, sym, ◌∙◌, refl}
use Rattle.std.specs.Prelude.{if◌then◌else◌}
use Rattle.std.specs.Str.{IsUtf8, is_utf8}
use Rattle.std.proofs.lemmas.Bool.{cond_both}
use Rattle.std.proofs.lemmas.Str.{IsUtf8-from_is_utf8, is_utf8-from_IsUtf8}
use Rattle.neli_tables_walk.specs.Quoted.{text_in}
use Rattle.neli_tables_walk.proofs.quoted.text_in.Goals as goal

is-text : (bytes text : List ℕ) → text ≡ bytes → IsUtf8 bytes → Some text ≡ text_in bytes
unfolding text_in
is-text bytes text same is =
    ap (λ (l : List ℕ). Some l) same
    ∙ sym (ap (λ (b : Bool). if b then Some bytes else None) (is_utf8-from_IsUtf8 bytes is))

no-text : (bytes : List ℕ) → ¬ (IsUtf8 bytes) → None ≡ text_in bytes
unfolding text_in
no-text bytes other =
    cond_both (is_utf8 bytes) (Some bytes) None (λ (o : Option (List ℕ)). None ≡ o)
    (λ e. absurd (other (IsUtf8-from_is_utf8 bytes e))) (λ e. refl)

pub returns-in-Ok : goal.returns-in-Ok
returns-in-Ok c = is-text _ _ c.in-Ok.ensures.cases.0 c.in-Ok.ensures.cases.1

pub returns-in-Err : goal.returns-in-Err
returns-in-Err c = no-text _ c.in-Err.ensures.cases.0
