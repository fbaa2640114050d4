use Rattle.std.proofs.Common.{arith, refl, ◌≡◌, ◌<◌, length}
use Rattle.neli_log.proofs.Changes.{standing_read, standing_end, raise_at, raise_end, positions_set}
use Rattle.neli_log.proofs.counts.raise.Goals as goal

pub overflow_add-index_mut : goal.overflow_add-index_mut
overflow_add-index_mut c =
    let l : c.args.i < length c.args.shared.now.items = omega (arith, c.args.shared.now.ok.0) in
    let r = standing_read c.args.shared.now.items c.args.caught_up.now c.args.i c.index_mut.result.now l
    c.index_mut.ensures.value in
    omega (arith, r, c.requires.few)

pub overflow_add-caught_up : goal.overflow_add-caught_up
overflow_add-caught_up c =
    let l : c.args.i ≡ length c.args.shared.now.items = omega (arith, c.args.shared.now.ok.0) in
    let s = rw (l, standing_end) at c.requires.few in omega (arith, s)

pub returns-then-i-len-clause-more : goal.returns-then-i-len-clause-more
returns-then-i-len-clause-more c = λ n.
    let l : c.args.i < length c.args.shared.now.items = omega (arith, c.args.shared.now.ok.0) in
    raise_at c.args.shared.now.items c.args.caught_up.now c.args.i c.index_mut.result.now _ n l
    c.index_mut.ensures.value refl

pub returns-then-i-len-clause-positions : goal.returns-then-i-len-clause-positions
returns-then-i-len-clause-positions c =
    let l : c.args.i < length c.args.shared.now.items = omega (arith, c.args.shared.now.ok.0) in
    positions_set c.args.shared.now.items c.args.i c.index_mut.result.now _ l c.index_mut.ensures.value refl

pub returns-else-i-len-clause-more : goal.returns-else-i-len-clause-more
returns-else-i-len-clause-more c = λ n. raise_end c.args.shared.now.items c.args.caught_up.now c.args.i n
    c.requires.within (omega (arith, c.args.shared.now.ok.0))
