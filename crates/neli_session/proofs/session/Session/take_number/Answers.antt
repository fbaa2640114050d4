use Rattle.std.proofs.Common.{arith, ap, ◌≡◌, ◌<◌, length}
use Rattle.neli_session.specs.Requests.{Held}
use Rattle.neli_session.proofs.Free.{parts-in-use}
use Rattle.neli_session.proofs.session.Session.take_number.Goals as goal

pub returns-clause-first : goal.returns-clause-first
returns-clause-first c =
    let inv = c.loop-tries.invariant in
    let before = c.args.self.now in
    let count : length c.loop-tries.self.requests.entries ≡ length before.requests.entries =
    ap (λ (h : Held). length h.entries) inv.requests in
    let len = c.len.ensures.len in
    let over = c.loop-tries-test.false in
    let more : length before.requests.entries < c.loop-tries.tries = omega (arith, count, len, over) in
    parts-in-use (λ p. p.request) before.requests.entries before.next_number c.loop-tries.tries inv.fits more inv.taken
