use Rattle.std.proofs.Common.{◌-◌, eqb, ltb, sym, arith}
use Rattle.std.specs.Int.{bit_at}
use Rattle.std.proofs.lemmas.Bool.{and_left, le-ltb}
use Rattle.neli_util.proofs.MaskLemmas.{is_masked_above}
use Rattle.neli_util.proofs.masks.is_in_mask.Goals as goal
use Rattle.neli_util.proofs.masks.is_in_mask.Goals.{then-group-eq0-via-then-group-eq0}
use Rattle.neli_util.proofs.masks.is_in_mask.Goals.{then-group-eq0-via-else-group-eq0+then-group-gt-MASK_WIDTH}

pub returns-then-group-eq0 : goal.returns-then-group-eq0
returns-then-group-eq0 c =
    let mask = c.args.mask in
    let group = c.args.group in
    elim c.then-group-eq0.branch [
      | then-group-eq0-via-then-group-eq0 w ↦ sym (and_left (ltb 0 group) (eqb (bit_at mask (group - 1)) 1)
          (le-ltb 0 group (omega (arith, w.if-group-eq0.true))))
      | then-group-eq0-via-else-group-eq0+then-group-gt-MASK_WIDTH w ↦ sym
          (is_masked_above mask group (omega arith) (omega (arith, w.if-group-gt-MASK_WIDTH.true)))
    ]
