use Rattle.std.proofs.Common.{List, ℕ, subst, sym}
use Rattle.neli_lent.specs.Messages.{message_view}
use Rattle.neli_session.specs.Messages.{IsMessage}
use Rattle.neli_session.proofs.Messages.{span-front}
use Rattle.neli_session.proofs.run.next_like.Goals as goal

pub returns-then-is_like-clause-like : goal.returns-then-is_like-clause-like
returns-then-is_like-clause-like c =
    let k = message_view c.in-Ok.next in (
      k,
      subst (λ (s : List ℕ). IsMessage s k) (sym (span-front c.args.bytes.now c.in-Ok.span.now c.args.place c.in-Ok.ensures.span))
          c.in-Ok.ensures.message,
      c.is_like.ensures c.if-is_like.true,
      sym c.ends-ended.ensures,
    )
