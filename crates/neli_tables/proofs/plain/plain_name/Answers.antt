use Rattle.std.proofs.Common.{◌≡◌, ℕ, List, true, Some, None, Option, ap, sym, ◌∙◌, refl}
use Rattle.std.specs.List.{list_all}
use Rattle.std.specs.Str.{IsUtf8, is_utf8}
use Rattle.std.proofs.lemmas.Bool.{cond_both}
use Rattle.std.proofs.lemmas.Str.{IsUtf8-from_is_utf8, is_utf8-from_IsUtf8}
use Rattle.neli_tables.specs.Lines.{LineSeen, line_view}
use Rattle.neli_tables.specs.Plain.{is_plain, plain_name}
use Rattle.neli_tables.proofs.plain.plain_name.Goals as goal

kept : (line : LineSeen) (text : List ℕ) → text ≡ line.name → list_all is_plain line.name ≡ true
    → is_utf8 line.name ≡ true → Some text ≡ plain_name line
kept line text same plain is = rw (plain, is) (ap (λ (l : List ℕ). Some l) same)

lost : (line : LineSeen) → list_all is_plain line.name ≡ true → ¬ (IsUtf8 line.name) → None ≡ plain_name line
lost line plain other =
    rw plain (cond_both (is_utf8 line.name) (Some line.name) None (λ (o : Option (List ℕ)). None ≡ o)
    (λ e. absurd (other (IsUtf8-from_is_utf8 line.name e))) (λ e. refl))

pub returns-in-Ok : goal.returns-in-Ok
returns-in-Ok c =
    kept (line_view c.args.line.now) _ c.in-Ok.ensures.cases.0 (sym c.are_plain.ensures ∙ c.if-not-are_plain.false)
    (is_utf8-from_IsUtf8 _ c.in-Ok.ensures.cases.1)

pub returns-in-Err : goal.returns-in-Err
returns-in-Err c = lost (line_view c.args.line.now) (sym c.are_plain.ensures ∙ c.if-not-are_plain.false) c.in-Err.ensures.cases.0
