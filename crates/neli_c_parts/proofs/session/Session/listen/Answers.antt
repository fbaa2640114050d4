use Rattle.std.proofs.Common.{refl, w32, ◌∙◌}
use Rattle.std.proofs.lemmas.Int.{to_z-of_z}
use Rattle.neli_c_parts.proofs.Listens.{listens}
use Rattle.neli_c_parts.proofs.session.Session.listen.Goals as goal

pub returns : goal.returns
returns c =
    let s = c.args.self.now in
    let r = c.listen-answer.ensures in
    let code = to_z-of_z w32 c.notice.result (record { sfits = c.notice.type_inv }) ∙ c.notice.ensures.code in
    listens s (record {
      router = c.listen-answer.new.self;
      handles = s.handles;
      freed = s.freed;
      held = c.notice.new.held;
    }) _ _ _ _ code c.notice.ensures.held r.missed r.closed r.waits r.gives r.others r.unchanged r.same.port r.same.next_seq
    r.same.heard r.given_up refl refl
