use Rattle.std.proofs.Common.{◌-◌, ◌*◌, ◌/◌, ◌%◌, ◌<◌, ◌≤◌, eqb, not, length, sym, ap, ◌∙◌, arith}
use Rattle.std.specs.Int.{bit_at}
use Rattle.std.proofs.lemmas.List.{get_or_read}
use Rattle.neli_util.proofs.BitLemmas.{has-numbers, has_no_zero}
use Rattle.neli_util.specs.Groups.{has}
use Rattle.neli_util.proofs.bit_array.NetlinkBitArray.is_set.Goals as goal

pub returns-then-n-ne0 : goal.returns-then-n-ne0
returns-then-n-ne0 c =
    let ws = c.self.inside.words.items in
    let n = c.args.n in
    let capacity = ap (λ a. a.capacity) c.self.view_is in
    let within : n ≤ 32 * length ws = omega (arith, capacity, c.requires) in
    let some : 0 < n = omega arith in
    let read = get_or_read ws ((n - 1) / 32) _ (omega arith) c.index.ensures 0 in
    record {
      value = c.word_has_bit.ensures ∙ ap (λ w. eqb (bit_at w ((n - 1) % 32)) 1) read
          ∙ sym (has-numbers ws n some within) ∙ ap (λ a. has a.numbers n) c.self.view_is;
    }

pub returns-else-n-ne0 : goal.returns-else-n-ne0
returns-else-n-ne0 c =
    let ws = c.self.inside.words.items in
    let is_zero = c.if-n-ne0.false in
    record {
      value = ap (λ n. not (eqb n 0)) is_zero ∙ sym (has_no_zero ws) ∙ ap (λ a. has a.numbers 0) c.self.view_is
          ∙ ap (has c.args.self.now.numbers) (sym is_zero);
    }
