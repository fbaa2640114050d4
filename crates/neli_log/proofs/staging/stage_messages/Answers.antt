use Rattle.std.proofs.Common.{◌≡◌, ◌∙◌, ℕ, List, [], None, Some, ap, length, subst, sym, true}
use Rattle.std.proofs.lemmas.Bool.{eqb-true}
use Rattle.neli_reader.specs.Agreement.{untyped_layout}
use Rattle.neli_reader.specs.Cuts.{cut_of}
use Rattle.neli_log.specs.Places.{pending_of}
use Rattle.neli_log.specs.Staged.{AreStaged}
use Rattle.neli_log.proofs.Stages.{before_within, cut_done, staged_further}
use Rattle.neli_log.proofs.staging.stage_messages.Goals as goal

pub returns-in-Some : goal.returns-in-Some
returns-in-Some c =
    let bytes = c.args.bytes.now in
    let new = c.stage_next.new.cursor in
    let cut = cut_of untyped_layout bytes in
    let inv = c.loop-cursor.invariant in
    let step = rw inv.whole at c.in_ok-fault.ensures.staged in
    let staged = rw c.in-Some.is at (step cut inv.staged) in
    staged_further (pending_of c.args.places.now) c.args.port c.args.serial bytes c.args.groups.now cut
    c.stage_next.new.entries.items (length new.before) (length bytes) ([], Some c.in-Some.fault)
    (before_within new.before new.rest bytes (c.in_ok-fault.ensures.moved ∙ inv.whole)) staged

pub loop-cursor-preserved : goal.loop-cursor-preserved
loop-cursor-preserved c =
    let inv = c.loop-cursor.invariant in
    let step = rw inv.whole at c.in_ok-fault.ensures.staged in
    record {
      whole = c.in_ok-fault.ensures.moved ∙ inv.whole;
      staged = rw c.in_default.is at (step (cut_of untyped_layout c.args.bytes.now) inv.staged);
    }

pub returns : goal.returns
returns c =
    let bytes = c.args.bytes.now in
    let here = c.loop-cursor.cursor in
    let P = pending_of c.args.places.now in
    let cut = cut_of untyped_layout bytes in
    let inv = c.loop-cursor.invariant in
    let yes : c.is_empty.result ≡ true = (let t = c.loop-cursor-test.false in cc) in
    let none : length c.rest.result.now ≡ 0 = eqb-true _ _ (sym c.is_empty.ensures ∙ yes) in
    let left : length here.rest ≡ 0 = sym (ap (λ (s : List ℕ). length s) c.rest.ensures) ∙ none in
    let all = subst (λ r. AreStaged P c.args.port c.args.serial bytes c.args.groups.now cut c.loop-cursor.entries.items
    (length here.before) r) (cut_done here.rest left) inv.staged in
    staged_further P c.args.port c.args.serial bytes c.args.groups.now cut c.loop-cursor.entries.items
    (length here.before) (length bytes) ([], None) (before_within here.before here.rest bytes inv.whole) all
