use Rattle.std.proofs.Common.{get_or, take, length, refl, sym, ap, ◌∙◌, arith}
use Rattle.std.proofs.lemmas.List.{take_more}
use Rattle.neli_util.proofs.MaskLemmas.{IsMaskOf-push, past_mask-at, past_mask-push}
use Rattle.neli_util.specs.Groups.{has}
use Rattle.neli_util.specs.Masks.{past_mask}
use Rattle.neli_util.proofs.masks.slice_to_mask.Goals as goal

pub returns-then-group-gt-MASK_WIDTH-clause-first : goal.returns-then-group-gt-MASK_WIDTH-clause-first
returns-then-group-gt-MASK_WIDTH-clause-first c =
    sym (ap (λ xs. get_or xs 0 0) (past_mask-at c.args.groups.now c.loop-group.group-index c.loop-group-test.true
    c.loop-group.invariant.1 c.if-group-gt-MASK_WIDTH.true))

pub returns-then-group-gt-MASK_WIDTH-clause-refused : goal.returns-then-group-gt-MASK_WIDTH-clause-refused
returns-then-group-gt-MASK_WIDTH-clause-refused c =
    let long = ap length (past_mask-at c.args.groups.now c.loop-group.group-index c.loop-group-test.true
    c.loop-group.invariant.1 c.if-group-gt-MASK_WIDTH.true) in
    (λ _. omega (arith, long), λ _. refl)

pub loop-group-preserved : goal.loop-group-preserved
loop-group-preserved c =
    let groups = c.args.groups.now in
    let i = c.loop-group.group-index in
    let group = get_or groups i 0 in
    let more = take_more groups i 0 c.loop-group-test.true in (
      λ n. IsMaskOf-push (take i groups) c.loop-group.mask group c.loop-group.invariant.0
          (c.requires i 0 c.loop-group-test.true) c.if-group-gt-MASK_WIDTH.false n ∙ ap (λ xs. has xs n) (sym more),
      ap past_mask more ∙ past_mask-push (take i groups) group c.loop-group.invariant.1
          c.if-group-gt-MASK_WIDTH.false,
    )
