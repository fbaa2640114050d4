use Rattle.std.proofs.Common.{List, ℕ, length, sym, ap, ◌∙◌, arith}
use Rattle.std.specs.Prelude.{IsTrue}
use Rattle.neli_wire.specs.Writing.{append_wire}
use Rattle.neli_reader.specs.Zeroed.{HasNoTail}
use Rattle.neli_program.proofs.Rewritings.{after_nothing, has_header, held_wire, refused_wider, same_wire, seen}
use Rattle.neli_program.proofs.rewriting.message_again.Goals as goal

pub returns-clause-value : goal.returns-clause-value
returns-clause-value c =
    let m = c.in_ok-message.message in (
      seen m,
      c.from_bytes.new.cursor.rest,
      rw c.new-cursor.ensures.rest at c.in_ok-message.ensures.value,
      (
        c.is_whole.ensures.0 c.if-not-is_whole.false,
        same_wire m.header m.payload ∙ after_nothing (held_wire m) c.to_bytes.new.buffer.items
            (ap (λ (x : List ℕ). append_wire x (held_wire m)) (sym c.new-written.ensures.items)
            ∙ c.in-Ok.ensures.appended),
        omega (arith, c.if-len-rest.false, c.len.ensures, ap length c.rest.ensures, c.to_bytes.new.buffer.ok.0),
      ),
    )

pub returns-then-not-is_whole-clause-value : goal.returns-then-not-is_whole-clause-value
returns-then-not-is_whole-clause-value c =
    let m = c.in_ok-message.message in (
      seen m,
      c.from_bytes.new.cursor.rest,
      rw c.new-cursor.ensures.rest at c.in_ok-message.ensures.value,
      λ (whole : HasNoTail (seen m)). let yes : IsTrue c.is_whole.result = c.is_whole.ensures.1 whole in
          let none : IsTrue c.is_whole.result → ⊥ = λ y. let no = c.if-not-is_whole.true in cc in none yes,
    )

pub returns-in_err-message-clause-refused : goal.returns-in_err-message-clause-refused
returns-in_err-message-clause-refused c =
    refused_wider c.from_residual.result _ _ _ c.in_err-message.field-0.0 (λ t. t.0) c.from_residual.ensures.1
    (rw c.new-cursor.ensures.rest at c.in_err-message.ensures.refused)

pub returns-in_default-clause-refused : goal.returns-in_default-clause-refused
returns-in_default-clause-refused c = has_header c.args.bytes.now c.from_bytes.new.cursor.rest (seen c.in_ok-message.message)
    (rw c.new-cursor.ensures.rest at c.in_ok-message.ensures.value)

pub returns-then-len-rest-clause-refused : goal.returns-then-len-rest-clause-refused
returns-then-len-rest-clause-refused c = has_header c.args.bytes.now c.from_bytes.new.cursor.rest (seen c.in_ok-message.message)
    (rw c.new-cursor.ensures.rest at c.in_ok-message.ensures.value)
