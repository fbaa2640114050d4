-- `of` is that of any place.
use Rattle.neli_loose.proofs.Places.{of_proved}
use Rattle.neli_c_parts.proofs.DumpPlaces.{places}
use Rattle.neli_c_parts.specs.contracts.dump_place.DumpPlace.of.Key.{name}
use Rattle.neli_c_parts.proofs.dump_place.DumpPlace.of.Statement.{statement}
use Rattle.neli_c_parts.proofs.dump_place.DumpPlace.of.Code.{unfolded}

pub of_spec : {M : Type 1} → statement M
of_spec 𝓤 𝓛 𝓜 𝓡 wired = of_proved places 𝓤 𝓛 𝓜 𝓡 _ _ name (unfolded 𝓤 𝓛.H 𝓜 𝓡 wired)
