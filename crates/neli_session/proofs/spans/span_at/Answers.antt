use Rattle.std.proofs.Common.{◌∙◌, ap, arith, drop, length, subst, sym}
use Rattle.std.proofs.Common.{◌++◌, ◌+◌, ◌<◌, ◌≡◌, List, ℕ}
use Rattle.neli_lent.specs.Messages.{message_view}
use Rattle.neli_session.specs.Messages.{IsMessage}
use Rattle.neli_session.proofs.Messages.{IsSpanAt, fault-at, span-there}
use Rattle.neli_session.proofs.spans.span_at.Goals as goal

there : (c : goal.After-position)
    → IsSpanAt c.args.bytes.now c.args.place c.position.result (message_view c.in-Ok.message)
there c =
    span-there c.args.bytes.now c.args.place c.position.result c.new-cursor.result c.set_position.new.self
    c.lend.new.cursor (message_view c.in-Ok.message) (omega (arith, c.requires)) (record {
      empty = c.new-cursor.ensures.before;
      rest_all = c.new-cursor.ensures.rest;
      before = c.set_position.ensures.before;
      rest = c.set_position.ensures.rest;
    }) c.in-Ok.ensures.value c.in-Ok.ensures.moved c.position.ensures.value

there_sliced : (c : goal.After-result-1)
    → IsSpanAt c.args.bytes.now c.args.place c.position.result (message_view c.in-Ok.message)
there_sliced c =
    span-there c.args.bytes.now c.args.place c.position.result c.new-cursor.result c.set_position.new.self
    c.lend.new.cursor (message_view c.in-Ok.message) (omega (arith, c.requires)) (record {
      empty = c.new-cursor.ensures.before;
      rest_all = c.new-cursor.ensures.rest;
      before = c.set_position.ensures.before;
      rest = c.set_position.ensures.rest;
    }) c.in-Ok.ensures.value c.in-Ok.ensures.moved c.position.ensures.value

pub slice_bounds-result-count : goal.slice_bounds-result-count
slice_bounds-result-count c = (there c).ordered

pub slice_bounds-result-start : goal.slice_bounds-result-start
slice_bounds-result-start c = (there c).ordered

pub slice_bounds-result-end : goal.slice_bounds-result-end
slice_bounds-result-end c = (there c).within

pub returns-in-Ok-clause-message : goal.returns-in-Ok-clause-message
returns-in-Ok-clause-message c =
    let t = there_sliced c in
    subst (λ (s : List ℕ). IsMessage s (message_view c.in-Ok.message)) (sym t.taken) t.message

pub returns-in-Ok-clause-span : goal.returns-in-Ok-clause-span
returns-in-Ok-clause-span c =
    let t = there_sliced c in
    subst (λ (s : List ℕ). drop c.args.place c.args.bytes.now ≡ s ++ drop (c.args.place + length s) c.args.bytes.now)
    (sym t.taken) (t.split ∙ ap (λ (n : ℕ). t.span ++ drop n c.args.bytes.now) t.ends)

pub returns-in-Ok-clause-long : goal.returns-in-Ok-clause-long
returns-in-Ok-clause-long c =
    let t = there_sliced c in
    subst (λ (s : List ℕ). 0 < length s) (sym t.taken) (omega (arith, t.long))

pub returns-in-Err-clause-fault : goal.returns-in-Err-clause-fault
returns-in-Err-clause-fault c =
    fault-at c.args.bytes.now c.args.place c.new-cursor.result c.set_position.new.self c.in-Err.error c.requires
    (record {
      empty = c.new-cursor.ensures.before;
      rest_all = c.new-cursor.ensures.rest;
      before = c.set_position.ensures.before;
      rest = c.set_position.ensures.rest;
    }) c.in-Err.ensures.refused
