use Rattle.std.proofs.Common.{◌≡◌, Bool, true, false, refl, sym}
use Rattle.std.specs.Prelude.{not}
use Rattle.neli_lent.specs.Messages.{message_view}
use Rattle.neli_session.proofs.Runs.{run-first, run-longer}
use Rattle.neli_session.proofs.run.run_of.Goals as goal

pub loop-run-init : goal.loop-run-init
loop-run-init c =
    run-first c.args.answering (message_view c.args.message.now) c.args.bytes.now c.args.first c.ends.result c.requires.some
    c.requires.within c.requires.first (sym c.ends.ensures)

not-ended : (b : Bool) → not b ≡ true → b ≡ false
not-ended false e = refl
not-ended true e = cc

pub loop-run-preserved : goal.loop-run-preserved
loop-run-preserved c =
    let like = c.in-Some.ensures.like in
    run-longer c.args.answering (message_view c.args.message.now) like.0 c.args.bytes.now c.loop-run.run c.in-Some.next.length
    c.in-Some.next.ended c.loop-run.invariant (not-ended c.loop-run.run.ended c.if-not-run.true) c.in-Some.ensures.within.1 like.1 like.2 like.3
