-- What walks state about their steps: laws that their implementations meet.
use Rattle.std.specs.Prelude.{Option}

-- each step is one of these
abbrev pub StepsOnly : {S A : Type 0} → (S → Option A → S → Type 0) → (S → Option A → S → Type 0) → Type 0
StepsOnly {S} {A} gives is = (s : S) (item : Option A) (t : S) → gives s item t → is s item t
