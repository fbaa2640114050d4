use Rattle.std.proofs.Common.{◌≡◌, List, [], ◌∷◌, Option, Some, ap, refl, sym, ◌∙◌}
use Rattle.neli_session.specs.Sessions.{without_first}
use Rattle.neli_session.specs.Waiting.{Item}
use Rattle.neli_session.proofs.reading.pass_in.Goals as goal

first-gone : (xs left : List Item) → ((item : Item) (later : List Item) → xs ≡ item ∷ later → left ≡ later)
    → (xs ≡ [] → left ≡ []) → Some left ≡ without_first (Some xs)
first-gone [] left passed none = ap (λ (ys : List Item). Some ys) (none refl)
first-gone (x ∷ xs) left passed none = ap (λ (ys : List Item). Some ys) (passed x xs refl)

pub returns-in-Some : goal.returns-in-Some
returns-in-Some c =
    first-gone c.in-Some.queue c.pass.new.self (λ item later e. (c.pass.ensures.passed item later e).0)
    (λ e. (c.pass.ensures.none e).0) ∙ ap (λ (o : Option (List Item)). without_first o) (sym c.in-Some.is)
