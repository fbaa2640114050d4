use Rattle.std.proofs.Common.{w32, ◌∙◌}
use Rattle.std.proofs.lemmas.Int.{to_z-of_z}
use Rattle.neli_c_parts.proofs.Lends.{lends}
use Rattle.neli_c_parts.proofs.Replies.{of-value}
use Rattle.neli_c_parts.proofs.session.Session.lend.Goals as goal

pub returns-clause-some : goal.returns-clause-some
returns-clause-some c =
    let h = c.in-Some.reader.now in
    let r = c.lend_next.ensures in
    let code = to_z-of_z w32 c.give.result (record { sfits = c.give.type_inv }) ∙ c.give.ensures.code in
    of-value _ _ h (rw c.deref.ensures.value at c.in-Some.ensures)
    (lends _ c.args.lent.now c.give.new.lent h c.args.self.now _ code c.give.ensures.stored r.ended r.closed r.waits r.lends)
