use Rattle.std.proofs.Common.{ℤ, false, sym, subst, w32}
use Rattle.std.proofs.lemmas.Int.{to_z-of_z}
use Rattle.neli_print.specs.declared.head.Header.{Header}
use Rattle.neli_print.specs.Messages.{message_text}
use Rattle.neli_c_parts.specs.AnswersShown.{payload_view}
use Rattle.neli_c_parts.specs.Printed.{PrintsMessage, PrintsText, header_of}
use Rattle.neli_c_parts.proofs.Explained.{shown}
use Rattle.neli_c_parts.proofs.printing.message_text.Goals as goal

pub returns : goal.returns
returns c =
    let tables = c.args.families.now.tables in let header = header_of c.args.protocol c.args.message.now in
    let payload = payload_view c.args.bytes.now c.args.message.now in
    subst (λ (z : ℤ). PrintsMessage z (message_text false tables header) payload c.args.out.now c.print.new.out
    c.args.size.now c.print.new.size) (sym (to_z-of_z w32 c.print.result (record { sfits = c.print.type_inv })))
    (shown payload c.in-Some.payload.now (message_text false tables header) c.print.result c.args.out.now
    c.print.new.out c.args.size.now c.print.new.size c.in-Some.ensures.some (
      (λ ne.
          subst (λ (h : Header). PrintsText c.print.result (message_text false tables h c.in-Some.payload.now)
          c.args.out.now c.print.new.out c.print.new.size) c.header_of.ensures (c.print.ensures.printed ne)),
      c.print.ensures.unprinted,
    ))
