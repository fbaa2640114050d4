use Rattle.std.proofs.Common.{◌≡◌, ℕ, ◌*◌, List, ap, ◌∙◌, arith}
use Rattle.std.proofs.lemmas.Result.{on_ok_weaker}
use Rattle.neli_util.proofs.BitLemmas.{array_of-resized}
use Rattle.neli_util.specs.BitArrays.{array_of, with_capacity, words_for}
use Rattle.neli_util.proofs.bit_array.NetlinkBitArray.resize.Goals as goal

pub returns-clause-ok : goal.returns-clause-ok
returns-clause-ok c =
    let ws : List ℕ = c.self.inside.words.items in
    let count = c.div_ceil.result in
    let count_is : count ≡ words_for (8 * c.args.bytes) = omega (arith, c.div_ceil.ensures) in
    on_ok_weaker c.resize_words.result (λ items. ap array_of items ∙ array_of-resized ws count
    ∙ ap (λ k. with_capacity (32 * k) (array_of ws)) count_is
    ∙ ap (with_capacity (32 * words_for (8 * c.args.bytes))) c.self.view_is) c.resize_words.ensures.ok
