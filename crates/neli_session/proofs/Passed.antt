-- What is read of a request.
use Rattle.std.proofs.Common.{◌≡◌, List, [], ◌∷◌, Option, Some, None, refl, sym, ap, ◌∙◌}
use Rattle.std.specs.Prelude.{◌||◌}
use Rattle.neli_session.specs.declared.noted.Noted.{Noted}
use Rattle.neli_session.specs.declared.request.Request.{Request}
use Rattle.neli_session.specs.Noted.{noted_of}
use Rattle.neli_session.specs.Requests.{is_marked, passed, passed_by, untold, verdict_with}
use Rattle.neli_session.specs.Waiting.{Item}

-- a request after its first item was passed, and noted
pub passed-some : (r : Request) (left : List Item) (noted : Noted) (o : Option Noted) (new : Request)
    → ((item : Item) (later : List Item) → r.waiting ≡ item ∷ later → (left ≡ later) × (o ≡ Some (noted_of item)))
    → (r.waiting ≡ [] → (left ≡ []) × (o ≡ None)) → o ≡ Some noted
    → ((item : Item) → noted ≡ noted_of item → new ≡ record r {
      waiting = left;
      noted = verdict_with r.noted item;
      is_filtered = is_marked item || r.is_filtered;
    }) → new ≡ passed r
passed-some r left noted o new some none is then = go r.waiting refl
  where
    go : (xs : List Item) → r.waiting ≡ xs → new ≡ passed_by xs (untold r) r
    go [] at = let wrong : None ≡ Some noted = sym (none at).1 ∙ is in absurd cc
    go (x ∷ xs) at =
        let both : Some noted ≡ Some (noted_of x) = sym is ∙ (some x xs at).1 in
        let same : noted ≡ noted_of x = cc in
        then x same
        ∙ ap (λ (ws : List Item). record r {
          waiting = ws;
          noted = verdict_with r.noted x;
          is_filtered = is_marked x || r.is_filtered;
        }) (some x xs at).0
