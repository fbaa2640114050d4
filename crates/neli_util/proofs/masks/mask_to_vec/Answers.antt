use Rattle.std.proofs.Common.{◌≡◌, ap, ◌∙◌, arith}
use Rattle.std.specs.List.{filter, range_with_len}
use Rattle.std.proofs.lemmas.List.{append-nil}
use Rattle.neli_util.proofs.Lists.{filter_range_more}
use Rattle.neli_util.proofs.MaskLemmas.{mask_width-is}
use Rattle.neli_util.specs.Masks.{mask_width, is_masked}
use Rattle.neli_util.proofs.masks.mask_to_vec.Goals as goal

pub loop-bit-preserved : goal.loop-bit-preserved
loop-bit-preserved c = grind (arith, filter_range_more (is_masked c.args.mask) c.loop-bit.bit, append-nil)

pub returns-clause-value : goal.returns-clause-value
returns-clause-value c =
    let all : c.loop-bit.bit ≡ mask_width = omega (arith, mask_width-is) in
    c.loop-bit.invariant ∙ ap (λ n. filter (is_masked c.args.mask) (range_with_len 1 n)) all
