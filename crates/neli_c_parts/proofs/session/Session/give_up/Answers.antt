use Rattle.std.proofs.Common.{refl}
use Rattle.neli_c_parts.proofs.Hears.{given-up}
use Rattle.neli_c_parts.proofs.session.Session.give_up.Goals as goal

pub returns-in-Ok-clause-given_up : goal.returns-in-Ok-clause-given_up
returns-in-Ok-clause-given_up c =
    let s = c.args.self.now in
    let r = c.in-Ok.ensures in
    given-up c.args.k s (record {
      router = c.give_up.new.self;
      handles = c.free.new.handles;
      freed = c.free.new.freed;
      held = s.held;
    }) c.in-Some.handle c.in-Some.ensures.taken (λ e. (r.multicast e).1) (λ e. (r.closed e).1) r.ok r.same.lists r.same.heard
    (c.in-Some.ensures.some refl) (c.in-Some.ensures.first refl) (c.in-Some.ensures.multicast refl) r.same.port r.same.next_seq refl
