use Rattle.std.proofs.Common.{◌≡◌, ◌+◌, Bool, List, ℕ, [], ◌∷◌, ◌++◌, cond, sym, ap, ◌∙◌, arith}
use Rattle.std.specs.List.{filter, range_with_len}
use Rattle.std.proofs.lemmas.List.{append-nil}
use Rattle.neli_util.proofs.Lists.{filter_range_more, lacking-some, with_added-then}
use Rattle.neli_util.proofs.MaskLemmas.{has-groups_of, mask_width-is}
use Rattle.neli_util.specs.Groups.{has, with_added}
use Rattle.neli_util.specs.Masks.{mask_width, is_masked, groups_of}
use Rattle.neli_util.proofs.groups.add_masked.Goals as goal
use Rattle.neli_util.proofs.groups.add_masked.Goals.{then-is_in_mask+in_default, else-is_in_mask}

pub returns-in-Err-clause-none_lacking : goal.returns-in-Err-clause-none_lacking
returns-in-Err-clause-none_lacking c none =
    let mask = c.args.mask in
    let bit = c.loop-bit.bit in
    let lacks = ap (λ xs. has xs (bit + 1)) (sym c.loop-bit.invariant) ∙ c.in-Err.ensures.lacking in
    let named = has-groups_of mask (bit + 1) (omega arith) ∙ sym c.is_in_mask.ensures ∙ c.if-is_in_mask.true in
    absurd (lacking-some (groups_of mask) (filter (is_masked mask) (range_with_len 1 bit)) c.args.list.now.items
    (bit + 1) named c.in-Err.ensures.above lacks none)

pub loop-bit-preserved : goal.loop-bit-preserved
loop-bit-preserved c =
    let groups : List ℕ = c.args.list.now.items in
    let mask = c.args.mask in
    let bit = c.loop-bit.bit in
    let passed = filter (is_masked mask) (range_with_len 1 bit) in
    let more = filter_range_more (is_masked mask) bit in
    let kept : Bool → List ℕ = λ b. with_added (passed ++ cond b ((bit + 1) ∷ []) []) groups in
    elim c.if-is_in_mask.branch [
      | then-is_in_mask+in_default w ↦
          let is = sym c.is_in_mask.ensures ∙ w.if-is_in_mask.true in
          let all = ap (λ xs. with_added xs groups) more ∙ ap kept is ∙ with_added-then passed groups (bit + 1) in
          ap (λ v. v.items) w.list-is ∙ w.in_default.ensures.ok ∙ ap (with_added ((bit + 1) ∷ [])) c.loop-bit.invariant
          ∙ sym all
      | else-is_in_mask w ↦
          let is = sym c.is_in_mask.ensures ∙ w.if-is_in_mask.false in
          let same = ap (λ xs. with_added xs groups) more ∙ ap kept is
          ∙ ap (λ xs. with_added xs groups) (append-nil passed) in
          ap (λ v. v.items) w.list-is ∙ c.loop-bit.invariant ∙ sym same
    ]

pub returns-clause-ok : goal.returns-clause-ok
returns-clause-ok c =
    let all : c.loop-bit.bit ≡ mask_width = omega (arith, mask_width-is) in
    c.loop-bit.invariant ∙ ap (λ n. with_added (filter (is_masked c.args.mask)
    (range_with_len 1 n)) c.args.list.now.items) all
