use Rattle.std.proofs.Common.{Option, ap}
use Rattle.std.specs.Option.{option_map}
use Rattle.neli_session.specs.declared.line.Place.{Place}
use Rattle.neli_session.proofs.Lines.{differ, same-line}
use Rattle.neli_session.proofs.line.Line.add.Goals as goal

pub returns-in-Ok-clause-line : goal.returns-in-Ok-clause-line
returns-in-Ok-clause-line c = λ ns stand out.
    same-line _ _ _ _ ns (λ q e. ap (λ (o : Option Place). option_map (λ p. p.link) o)
    (c.in-Ok.ensures.updates.2 q (differ c.args.number q ns out e))) stand
