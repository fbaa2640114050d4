use Rattle.std.proofs.Common.{List, ap}
use Rattle.std.specs.List.{list_any}
use Rattle.neli_deliveries.specs.Readings.{Item}
use Rattle.neli_router.specs.Verdicts.{is_flagged}
use Rattle.neli_router.specs.laws.Verdicts.{given_alike}
use Rattle.neli_runs.proofs.laws.given_items_stand_alike.Goals as goal

pub returns-clause-verdict : goal.returns-clause-verdict
returns-clause-verdict g c = λ needs numbered items.
    (given_alike g.RT.Constant.wire_number needs numbered items).1

pub returns-clause-filtered : goal.returns-clause-filtered
returns-clause-filtered g c = λ needs numbered items.
    ap (λ (ys : List (Item _ _)). list_any (is_flagged 32) ys)
    (given_alike g.RT.Constant.wire_number needs numbered items).0
