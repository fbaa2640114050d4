-- A sum built message by message.
use Rattle.std.proofs.Common.{◌≡◌, ℕ, ◌+◌, ◌-◌, ◌^◌, ◌≤◌, [], None, sym, ap, ◌∙◌, arith}
use Rattle.std.specs.Prelude.{sum_by}
use Rattle.neli_reader.specs.Cuts.{Cut}
use Rattle.neli_bench.specs.Walks.{IsSum, as_u64}

-- the sum over all messages is the sum so far and that over the remaining messages
pub record IsSumSoFar {A : Type 0} (size : A → ℕ) (all left : Cut A) (so_far : ℕ) : Type 0 where
  pub fault : all.1 ≡ left.1
  pub total : as_u64 (sum_by size all.0) ≡ as_u64 (so_far + sum_by size left.0)
  pub fits : so_far ≤ 2 ^ 64 - 1

pub sum_end : {A : Type 0} (size : A → ℕ) (all left : Cut A) (so_far : ℕ) → IsSumSoFar size all left so_far
    → left ≡ ([], None) → IsSum size all so_far
sum_end size all left so_far is last = (
  is.fault ∙ ap (λ c. c.1) last,
  sym (is.total ∙ ap (λ c. as_u64 (so_far + sum_by size c.0)) last
      ∙ omega (arith, is.fits)),
)
