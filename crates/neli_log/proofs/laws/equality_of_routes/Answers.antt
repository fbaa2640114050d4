use Rattle.std.specs.Prelude.{ℕ, refl}
use Rattle.std.specs.Cmp.{unsigned_Decides}
use mathlib.Core.Path.{ap}
use Rattle.neli_log.specs.declared.entry.Route.{Route}
use Rattle.neli_log.specs.declared.entry.Route.TheVariants.{Multicast, Number, Numbers}
use Rattle.neli_log.proofs.laws.equality_of_routes.Goals as goal

abbrev number_in : Route → ℕ
number_in Multicast = 0
number_in (Number n) = n
number_in Numbers = 0

pub returns : goal.returns
returns c Multicast Multicast = (λ e. refl, λ e. refl)
returns c Multicast (Number n) = (λ e. absurd cc, λ e. absurd cc)
returns c Multicast Numbers = (λ e. absurd cc, λ e. absurd cc)
returns c (Number m) Multicast = (λ e. absurd cc, λ e. absurd cc)
returns c (Number m) (Number n) =
    (λ e. ap Number ((unsigned_Decides m n).0 e), λ e. (unsigned_Decides m n).1 (ap number_in e))
returns c (Number m) Numbers = (λ e. absurd cc, λ e. absurd cc)
returns c Numbers Multicast = (λ e. absurd cc, λ e. absurd cc)
returns c Numbers (Number n) = (λ e. absurd cc, λ e. absurd cc)
returns c Numbers Numbers = (λ e. refl, λ e. refl)
