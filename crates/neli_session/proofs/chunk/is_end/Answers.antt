use Rattle.std.proofs.Common.{◌≡◌, true, ℕ, length, subst}
use Rattle.std.specs.Prelude.{◌==◌}
use Rattle.std.proofs.lemmas.Bool.{eqb-true}
use Rattle.neli_session.proofs.Lines.{itself}
use Rattle.neli_session.proofs.Messages.{at-end, end-at}
use Rattle.neli_session.proofs.chunk.is_end.Goals as goal

pub returns : goal.returns
returns c =
    let bytes = c.args.bytes.now in
    let place = c.args.place in (
      λ e. at-end bytes place (eqb-true place (length bytes) e),
      λ none. subst (λ (n : ℕ). (place == n) ≡ true) (end-at bytes place c.requires.within c.requires.whole none) (itself place),
    )
