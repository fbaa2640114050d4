-- What a place and a router are after their session was lent.
use mathlib.Core.Option.{none}
use Rattle.std.specs.Prelude.{◌≡◌, ⊤, Some}
use Rattle.std.specs.Borrow.{Fml, Lends, MutBor, follows_so}
use Rattle.neli_c_parts.specs.declared.router_opaque.NeliRouter.{NeliRouter}
use Rattle.neli_c_parts.specs.declared.router_place.Place.{Place}
use Rattle.neli_c_parts.specs.declared.session.Session.{Session}
use Rattle.neli_c_parts.specs.contracts.router_opaque.NeliRouter as router
use Rattle.neli_c_parts.specs.contracts.router_place.Place as place
use Rattle.neli_c_parts.specs.contracts.session.Session as session

-- the place with this session
abbrev pub with_session : Place → Session → Place
with_session p s = record p { value = Some s }

-- the place ends with the last value behind the reference
abbrev pub LendsSession : MutBor Place → MutBor Session → Fml
LendsSession p r = Lends place.the_row session.the_row p r (with_session p.now)

-- the router ends as it was
abbrev pub IsLeft : MutBor NeliRouter → Fml
IsLeft r = follows_so router.the_row router.the_row r.ghost_name none (λ _ _. ⊤) (λ v. v ≡ r.now)
