use Rattle.std.proofs.Common.{◌≡◌, take}
use Rattle.std.specs.Prelude.{sum_by}
use Rattle.neli_bench.specs.Walks.{as_u64, type_and_length}
use Rattle.neli_bench.proofs.owned.attributes_add.Given as goal

abbrev pub invariant-loop-attribute : goal.invariant-loop-attribute
invariant-loop-attribute g l =
    l.total ≡ as_u64 (sum_by (λ a. type_and_length (g.T.Constant.wire_number a.rta_type) a.rta_payload)
    (take l.attribute-index l.attribute-items))
