use Rattle.std.proofs.Common.{◌≡◌, ℕ, ◌∷◌, IfSome, IsNone, Option, subst, sym}
use Rattle.neli_lent.specs.Messages.{message_view}
use Rattle.neli_lent.specs.declared.message.LentMessage.{LentMessage}
use Rattle.neli_log.specs.Lending.{Lends}
use Rattle.neli_c_parts.specs.Ahead.{Message, messages_in}
use Rattle.neli_c_parts.proofs.Aheads.{Next, message-next, next, none-next}
use Rattle.neli_c_parts.proofs.ahead.next_message.Goals as goal

pub returns-clause-some : goal.returns-clause-some
returns-clause-some c =
    let a = c.args.ahead.now in
    let b = c.lend_next.new.self in
    let r = c.lend_next.ensures in
    let come : Next c.lend_next.result (messages_in a) (messages_in b) =
    next a b c.lend_next.result r.lends r.rest in
    subst (λ (o : Option (LentMessage ℕ)). IfSome o (λ m. (u : Message) × Lends (message_view m) u
    × (messages_in a ≡ u ∷ messages_in b))) (sym c.message_in.ensures)
    (message-next c.lend_next.result (messages_in a) (messages_in b) come)

pub returns-clause-none : goal.returns-clause-none
returns-clause-none c = λ none.
    let a = c.args.ahead.now in
    let b = c.lend_next.new.self in
    let r = c.lend_next.ensures in
    let come : Next c.lend_next.result (messages_in a) (messages_in b) =
    next a b c.lend_next.result r.lends r.rest in
    none-next c.lend_next.result (messages_in a) (messages_in b) come
    (subst (λ (o : Option (LentMessage ℕ)). IsNone o) c.message_in.ensures none)
