-- The result of a loop over items, from an item on.
use Rattle.std.proofs.Common.{List, Option, Result, Ok}
use Rattle.std.specs.List.{last_or}
use Rattle.neli_resolvers.specs.Items.{after, all_found}

-- the last match, if this was found before
abbrev pub last_from : {A B E : Type 0} → (A → Result (Option B) E) → Option B → List A → Result (Option B) E
last_from f before xs = after (λ found. Ok (last_or before found)) (all_found f xs)
