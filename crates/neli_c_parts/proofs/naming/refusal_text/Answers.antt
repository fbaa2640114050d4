use Rattle.std.proofs.Common.{◌≡◌, ◌∙◌, ℤ, ap, option_map, sym, subst, w32}
use Rattle.std.specs.Prelude.{unsigned_abs}
use Rattle.std.proofs.lemmas.Int.{to_z-of_z}
use Rattle.neli_tables_walk.specs.Bodies.{BodySeen, body_view}
use Rattle.neli_tables_check.specs.Refusals.{place_text, refusal_text}
use Rattle.neli_c_parts.specs.AnswersShown.{payload_view}
use Rattle.neli_c_parts.specs.Named.{Explains, at_in, at_text, said}
use Rattle.neli_c_parts.proofs.Explained.{explained, refused-as, text-at}
use Rattle.neli_c_parts.proofs.naming.refusal_text.Goals as goal

pub returns : goal.returns
returns c =
    let text = c.args.text.now in let offset = c.args.offset in let body = body_view c.in-Some.body in
    let number : c.unsigned_abs.result ≡ unsigned_abs c.args.error = c.unsigned_abs.ensures.value
    ∙ ap unsigned_abs (to_z-of_z w32 c.args.error (record { sfits = c.ranges.error.sfits })) in
    let path : option_map place_text c.place_in.result ≡ option_map at_text (at_in body offset) =
    text-at c.place_in.result ∙ ap (option_map at_text) c.place_in.ensures in
    subst (λ (z : ℤ). Explains z c.args.protocol c.args.message.now
    (payload_view c.args.bytes.now c.args.message.now) c.args.error text offset
    c.args.families.now c.args.out.now c.print.new.out c.args.size.now c.print.new.size)
    (sym (to_z-of_z w32 c.print.result (record { sfits = c.print.type_inv })))
    (explained _ _ body (λ (b : BodySeen). refusal_text (unsigned_abs c.args.error) (said text)
    (option_map at_text (at_in b offset))) c.print.result c.args.out.now c.print.new.out
    c.args.size.now c.print.new.size c.in-Some.ensures (
      (λ ne.
          refused-as _ _ _ _ _ _ _ _ _ _ number c.said.ensures path (c.print.ensures.printed ne)),
      c.print.ensures.unprinted,
    ))
