-- Groups: none of them is 0.
use Rattle.std.proofs.Common.{◌≡◌, ℕ, ◌+◌, ◌<◌, ◌≤◌, ◌^◌, true, not, ltb, List, sym, ap, subst}
use Rattle.std.specs.Prelude.{Result, Ok, Err, OnOk, OnErr}
use Rattle.std.specs.List.{filter, range_with_len}
use Rattle.std.proofs.lemmas.Bool.{ltb-true}
use Rattle.std.proofs.lemmas.List.Elements.{All-filter, All-append, All-weaker, filter_passes, filter_agree}
use Rattle.neli_util.proofs.Lists.{range_within}
use Rattle.neli_util.proofs.MaskLemmas.{has-groups_of}
use Rattle.neli_util.specs.Groups.{has, HasNoZero, without_zeros, without, firsts, with_added}
use Rattle.neli_util.specs.Masks.{mask_width, is_masked, groups_of}

-- a mask has no group 0
pub groups_of-positive : (mask : ℕ) → HasNoZero (groups_of mask)
groups_of-positive mask =
    All-filter (is_masked mask) (λ n. 0 < n) (range_with_len 1 mask_width)
    (All-weaker (λ k. (1 ≤ k) × (k < 1 + mask_width)) (λ k. 0 < k) (λ k h. h.0) (range_with_len 1 mask_width)
    (range_within mask_width 1))

pub without_zeros-positive : (numbers : List ℕ) → HasNoZero (without_zeros numbers)
without_zeros-positive numbers =
    All-weaker (λ n. ltb 0 n ≡ true) (λ n. 0 < n) (λ n e. ltb-true 0 n e) (without_zeros numbers)
    (filter_passes (λ n. ltb 0 n) numbers)

pub with_added-positive : (added groups : List ℕ) → HasNoZero groups → HasNoZero (with_added added groups)
with_added-positive added groups h =
    All-append (λ n. 0 < n) groups (without groups (without_zeros (firsts added))) h
    (All-filter (λ n. not (has groups n)) (λ n. 0 < n) (without_zeros (firsts added))
    (without_zeros-positive (firsts added)))

-- the groups that a mask lacks are those that are not its groups
pub without-masked : (mask : ℕ) (groups : List ℕ) → mask < 2 ^ 32
    → filter (λ n. not (is_masked mask n)) groups ≡ without (groups_of mask) groups
without-masked mask groups fits =
    filter_agree (λ n. not (is_masked mask n)) (λ n. not (has (groups_of mask) n))
    (λ n. ap not (sym (has-groups_of mask n fits))) groups

-- nor has a list 0 where groups were added or left as they were
pub added_or_kept-positive : {T E : Type 0} (r : Result T E) (new added groups : List ℕ)
    → OnOk r (new ≡ with_added added groups) → OnErr r (new ≡ groups) → HasNoZero groups → HasNoZero new
added_or_kept-positive (Ok _) new added groups ok err h = let P : List ℕ → Type 0 = HasNoZero in
    subst P (sym ok) (with_added-positive added groups h)
added_or_kept-positive (Err _) new added groups ok err h = let P : List ℕ → Type 0 = HasNoZero in subst P (sym err) h
