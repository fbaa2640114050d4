-- `empty` is that of any place.
use Rattle.neli_loose.proofs.Places.{empty_proved}
use Rattle.neli_c_session.proofs.SessionPlaces.{places}
use Rattle.neli_c_session.specs.contracts.place.Place.empty.Key.{name}
use Rattle.neli_c_session.proofs.place.Place.empty.Statement.{statement}
use Rattle.neli_c_session.proofs.place.Place.empty.Code.{unfolded}

pub empty_spec : {M : Type 1} → statement M
empty_spec 𝓤 𝓛 𝓜 𝓡 wired = empty_proved places 𝓤 𝓛 𝓜 𝓡 _ name (unfolded 𝓤 𝓛.H 𝓜 𝓡 wired)
