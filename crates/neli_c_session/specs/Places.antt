-- What a place and a session for C are after their session was lent.
use mathlib.Core.Option.{none}
use Rattle.std.specs.Prelude.{◌≡◌, ⊤, Some}
use Rattle.std.specs.Borrow.{Fml, Lends, MutBor, follows_so}
use Rattle.neli_c_session.specs.declared.opaque.NeliSession.{NeliSession}
use Rattle.neli_c_session.specs.declared.place.Place.{Place}
use Rattle.neli_session.specs.declared.session.Session.{Session}
use Rattle.neli_c_session.specs.contracts.opaque.NeliSession as held
use Rattle.neli_c_session.specs.contracts.place.Place as place
use Rattle.neli_session.specs.contracts.session.Session as session

-- the place with this session
abbrev pub with_session : Place → Session → Place
with_session p s = record p { value = Some s }

-- the place ends with the last value behind the reference
abbrev pub LendsSession : MutBor Place → MutBor Session → Fml
LendsSession p r = Lends place.the_row session.the_row p r (with_session p.now)

-- what C holds ends as it was
abbrev pub IsLeft : MutBor NeliSession → Fml
IsLeft r = follows_so held.the_row held.the_row r.ghost_name none (λ _ _. ⊤) (λ v. v ≡ r.now)
