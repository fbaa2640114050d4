use Rattle.std.proofs.Common.{ℕ, ◌-◌, ◌*◌, ◌/◌, ◌%◌, ◌^◌, ◌<◌, ◌≤◌, bit_or, List, length, set, sym, ap, ◌∙◌, arith}
use Rattle.std.proofs.lemmas.List.{get_or_read}
use Rattle.neli_util.proofs.BitLemmas.{array_of-set, with_number-zero}
use Rattle.neli_util.specs.BitArrays.{array_of, with_number}
use Rattle.neli_util.proofs.bit_array.NetlinkBitArray.set.Goals as goal

pub returns-then-n-eq0-clause-value : goal.returns-then-n-eq0-clause-value
returns-then-n-eq0-clause-value c =
    let ws = c.self.inside.words.items in
    with_number-zero ws ∙ ap (λ k. with_number k (array_of ws)) (sym c.if-n-eq0.true)
    ∙ ap (with_number c.args.n) c.self.view_is

pub returns-clause-value : goal.returns-clause-value
returns-clause-value c =
    let ws : List ℕ = c.self.inside.words.items in
    let n = c.args.n in
    let q = (n - 1) / 32 in
    let capacity = ap (λ a. a.capacity) c.self.view_is in
    let within : n ≤ 32 * length ws = omega (arith, capacity, c.requires) in
    let some : 0 < n = omega arith in
    let read = get_or_read ws q _ (omega arith) c.index_mut.ensures.value 0 in
    ap (λ w. array_of (set ws q (bit_or w (1 * 2 ^ ((n - 1) % 32) % 2 ^ 32)))) read ∙ array_of-set ws n some within
    ∙ ap (with_number n) c.self.view_is
