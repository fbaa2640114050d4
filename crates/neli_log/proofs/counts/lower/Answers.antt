use Rattle.std.proofs.Common.{arith, refl, ◌≡◌, ◌<◌, length}
use Rattle.neli_log.proofs.Changes.{standing_read, standing_end, lower_at, lower_end, positions_set}
use Rattle.neli_log.proofs.counts.lower.Goals as goal

pub overflow_sub-index_mut : goal.overflow_sub-index_mut
overflow_sub-index_mut c =
    let l : c.args.i < length c.args.shared.now.items = omega (arith, c.args.shared.now.ok.0) in
    let r = standing_read c.args.shared.now.items c.args.caught_up.now c.args.i c.index_mut.result.now l
    c.index_mut.ensures.value in
    omega (arith, r, c.requires.some)

pub overflow_sub-caught_up : goal.overflow_sub-caught_up
overflow_sub-caught_up c =
    let l : c.args.i ≡ length c.args.shared.now.items = omega (arith, c.args.shared.now.ok.0) in
    let s = rw (l, standing_end) at c.requires.some in s

pub returns-then-i-len-clause-less : goal.returns-then-i-len-clause-less
returns-then-i-len-clause-less c = λ n.
    let l : c.args.i < length c.args.shared.now.items = omega (arith, c.args.shared.now.ok.0) in
    lower_at c.args.shared.now.items c.args.caught_up.now c.args.i c.index_mut.result.now _ n l
    c.index_mut.ensures.value refl c.requires.some

pub returns-then-i-len-clause-positions : goal.returns-then-i-len-clause-positions
returns-then-i-len-clause-positions c =
    let l : c.args.i < length c.args.shared.now.items = omega (arith, c.args.shared.now.ok.0) in
    positions_set c.args.shared.now.items c.args.i c.index_mut.result.now _ l c.index_mut.ensures.value refl

pub returns-else-i-len-clause-less : goal.returns-else-i-len-clause-less
returns-else-i-len-clause-less c = λ n. lower_end c.args.shared.now.items c.args.caught_up.now c.args.i n
    c.requires.within (omega (arith, c.args.shared.now.ok.0)) c.requires.some
