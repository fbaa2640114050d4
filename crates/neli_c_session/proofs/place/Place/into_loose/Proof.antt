-- `into_loose` is that of any place.
use Rattle.neli_loose.proofs.Places.{into_proved}
use Rattle.neli_c_session.proofs.SessionPlaces.{places}
use Rattle.neli_c_session.specs.contracts.place.Place.into_loose.Key.{name}
use Rattle.neli_c_session.proofs.place.Place.into_loose.Statement.{statement}
use Rattle.neli_c_session.proofs.place.Place.into_loose.Code.{unfolded}

pub into_loose_spec : {M : Type 1} → statement M
into_loose_spec 𝓤 𝓛 𝓜 𝓡 wired = into_proved places 𝓤 𝓛 𝓜 𝓡 _ _ name (unfolded 𝓤 𝓛.H 𝓜 𝓡 wired)
