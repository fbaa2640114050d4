use Rattle.std.proofs.Common.{refl, sym, ◌∙◌, w32}
use Rattle.std.proofs.lemmas.Int.{to_z-of_z}
use Rattle.neli_router.specs.declared.handle.HandleState.{HandleState}
use Rattle.neli_c_parts.proofs.FreePlaces.{put-back}
use Rattle.neli_c_parts.proofs.Hears.{hears}
use Rattle.neli_c_parts.proofs.Replies.{of-value, reads}
use Rattle.neli_c_parts.proofs.session.Session.read.Goals as goal

pub returns-clause-some : goal.returns-clause-some
returns-clause-some c =
    let s = c.args.self.now in
    let h : HandleState = c.in-Some.handle in
    let after : HandleState = c.next_typed-answer.new.handle in
    let out = (c.in-Some.ensures.some refl).1 in
    let back = put-back s.handles.items _ s.freed s.freed c.args.k h after (sym c.in-Some.ensures.taken) out refl in
    let r = c.next_typed-answer.ensures in
    let code = to_z-of_z w32 c.hold.result (record { sfits = c.hold.type_inv }) ∙ c.hold.ensures.code in
    of-value _ _ h c.in-Some.ensures.taken (
      after,
      back.0,
      refl,
      back.1,
      reads h after s (record {
        router = c.next_typed-answer.new.self;
        handles = c.take.new.handles;
        freed = s.freed;
        held = c.hold.new.held;
      }) _ _ _ _ code c.hold.ensures.held r.ended r.closed r.waits r.gives r.same r.unchanged,
    )

pub returns-clause-heard : goal.returns-clause-heard
returns-clause-heard c =
    let s = c.args.self.now in
    let h : HandleState = c.in-Some.handle in
    let after : HandleState = c.next_typed-answer.new.handle in
    let r = c.next_typed-answer.ensures in
    of-value _ _ h c.in-Some.ensures.taken
    (hears h after s (record {
      router = c.next_typed-answer.new.self;
      handles = c.take.new.handles;
      freed = s.freed;
      held = c.hold.new.held;
    }) _ r.gives r.same.heard r.given_up r.unchanged)
