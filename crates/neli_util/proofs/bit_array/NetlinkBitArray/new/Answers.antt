use Rattle.std.proofs.Common.{◌*◌, ap, ◌∙◌}
use Rattle.neli_util.proofs.BitLemmas.{array_of-resized}
use Rattle.neli_util.specs.BitArrays.{array_of, with_capacity}
use Rattle.neli_util.proofs.bit_array.NetlinkBitArray.new.Goals as goal

pub returns-clause-numbers : goal.returns-clause-numbers
returns-clause-numbers c =
    let count = c.div_ceil.result in
    ap (λ xs. (array_of xs).numbers) c.in_ok-resize_words.ensures.ok
    ∙ ap (λ a. a.numbers) (array_of-resized c.new-words.result.items count)
    ∙ ap (λ xs. (with_capacity (32 * count) (array_of xs)).numbers) c.new-words.ensures.items
