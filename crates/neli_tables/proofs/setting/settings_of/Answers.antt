use Rattle.std.proofs.Common.{◌∙◌, sym}
use Rattle.std.proofs.lemmas.List.{map-append}
use Rattle.neli_tables.specs.Names.{finds}
use Rattle.neli_tables.proofs.OptionLines.{pass_refused, pass_setting, pass_twice}
use Rattle.neli_tables.proofs.setting.settings_of.Goals as goal

pub returns-in-Err : goal.returns-in-Err
returns-in-Err c =
    pass_refused (finds c.args.names.now) _ _ c.args.words.now c.loop-word.word-index _ _ c.loop-word.invariant
    c.loop-word-test.true (sym c.in-Err.ensures)

pub returns-then-has_slot : goal.returns-then-has_slot
returns-then-has_slot c =
    pass_twice (finds c.args.names.now) _ _ c.args.words.now c.loop-word.word-index _ _ c.loop-word.invariant
    c.loop-word-test.true (sym c.in-Ok.ensures)
    (rw c.deref.ensures.value at (sym c.has_slot.ensures ∙ c.if-has_slot.true))

pub loop-word-preserved : goal.loop-word-preserved
loop-word-preserved c =
    rw (c.in_ok-push.ensures.items, map-append) (pass_setting (finds c.args.names.now) _ _ c.args.words.now
    c.loop-word.word-index _ _ c.loop-word.invariant c.loop-word-test.true (sym c.in-Ok.ensures)
    (rw c.deref.ensures.value at (sym c.has_slot.ensures ∙ c.if-has_slot.false)))
