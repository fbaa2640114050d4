use Rattle.std.proofs.Common.{rules, refl, ◌∙◌, List, [], ℕ, ap}
use Rattle.neli_lent.specs.Messages.{message_view, messages_in}
use Rattle.neli_lent.specs.Walks.{items_of}
use Rattle.neli_print.specs.Messages.{lines_from}
use Rattle.neli_print.proofs.Loops.{Message, message_text_printed, printed_all, printed_end}
use Rattle.neli_print.proofs.datagram.DatagramTextDisplay.fmt.Goals as goal

pub loop-message-init : goal.loop-message-init
loop-message-init g c = λ plain.
    let me = c.args.self.now in
    let d = me.datagram in
    let rest : List ℕ → List ℕ = λ bytes.
    lines_from me.is_coloured d.tables.now d.protocol 0
    (items_of (messages_in (λ n. n) bytes)) in (
      [],
      search rules,
      ap rest (c.into_iter-message-iterator.ensures.into_iter_gives ∙ c.new-message-items.ensures),
    )

pub loop-message-preserved : goal.loop-message-preserved
loop-message-preserved g c =
    let me = c.args.self.now in
    message_text_printed _ _ _ _ me.is_coloured me.datagram.tables.now me.datagram.protocol
    c.loop-message.place _ (message_view c.in-Ok.lent) _ _ _ _ _ _ c.new.ensures.tables
    c.new.ensures.header c.new.ensures.payload (rw c.in-Ok.is at c.in-Some.ensures.steps)
    c.place_behind-place.ensures (λ plain. c.in_ok-write-in-Ok.ensures.writes plain refl)
    c.loop-message.invariant

pub returns-in-Err-clause-writes : goal.returns-in-Err-clause-writes
returns-in-Err-clause-writes g c = λ plain ok.
    let me = c.args.self.now in
    let d = me.datagram in
    let rest : List Message → List ℕ =
    lines_from me.is_coloured d.tables.now d.protocol c.loop-message.place in
    printed_all _ _ _ _ _ _ _ (λ still. c.write-in-Err.ensures.writes still ok)
    (ap rest (rw c.in-Err.is at c.in-Some.ensures.steps)) c.loop-message.invariant plain

pub returns-clause-writes : goal.returns-clause-writes
returns-clause-writes g c = λ plain ok.
    let me = c.args.self.now in
    let d = me.datagram in
    let rest : List Message → List ℕ =
    lines_from me.is_coloured d.tables.now d.protocol c.loop-message.place in
    printed_end _ _ _ _ _ (ap rest c.in-None.ensures.steps.0) c.loop-message.invariant plain
