-- `of` is that of any place.
use Rattle.neli_loose.proofs.Places.{of_proved}
use Rattle.neli_c_session.proofs.SessionPlaces.{places}
use Rattle.neli_c_session.specs.contracts.place.Place.of.Key.{name}
use Rattle.neli_c_session.proofs.place.Place.of.Statement.{statement}
use Rattle.neli_c_session.proofs.place.Place.of.Code.{unfolded}

pub of_spec : {M : Type 1} → statement M
of_spec 𝓤 𝓛 𝓜 𝓡 wired = of_proved places 𝓤 𝓛 𝓜 𝓡 _ _ name (unfolded 𝓤 𝓛.H 𝓜 𝓡 wired)
