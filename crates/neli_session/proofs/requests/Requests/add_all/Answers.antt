use Rattle.std.proofs.Common.{List, ℕ, arith, subst, sym, ◌∙◌, take}
use Rattle.std.proofs.lemmas.List.{take_more}
use Rattle.neli_session.specs.declared.entry.Entry.{Entry}
use Rattle.neli_session.specs.Readiness.{AreAway}
use Rattle.neli_session.specs.Sessions.{at}
use Rattle.neli_session.proofs.Entries.{added-more, back-more, free-more}
use Rattle.neli_session.proofs.Readiness.{away-last}
use Rattle.neli_session.proofs.requests.Requests.add_all.Goals as goal

pub loop-count-preserved : goal.loop-count-preserved
loop-count-preserved c =
    let inv = c.loop-count.invariant in
    let es = c.args.entries.now in
    let n = c.loop-count.count in
    let more = c.loop-count-test.true in
    let before = at c.args.self.now in
    let now = at c.loop-count.self in
    let new = at c.add.new.self in
    record {
      within = omega (arith, more);
      added = added-more es n _ before now new more inv.added c.in-Ok.ensures.added;
      back = back-more es n _ before now new more inv.back c.in-Ok.ensures.free c.in-Ok.ensures.added;
      free = free-more es n _ before now new more inv.free c.in-Ok.ensures.free c.in-Ok.ensures.added;
      line = c.add.ensures.line ∙ inv.line;
      away = subst (λ (ds : List Entry). AreAway ds c.add.new.self.line) (sym (take_more es n _ more))
          (away-last (take n es) _ c.add.new.self.line
          (subst (λ (line : List ℕ). AreAway (take n es) line) (sym c.add.ensures.line) inv.away) c.in-Ok.ensures.away);
    }
