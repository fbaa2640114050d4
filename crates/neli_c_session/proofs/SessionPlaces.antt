-- A place with a session is a place that C can hold: its parts, and that it owns what such a place owns.
use mathlib.Core.Path.{refl}
use Rattle.neli_loose.proofs.Places.{Places}
use Rattle.neli_session.specs.contracts.session.Session as Held
use Rattle.neli_session.proofs.session.Session.TheLaws as held
use Rattle.neli_c_session.specs.contracts.place.Place as Place

abbrev pub places : Places
places = record {
  held = Held.the_row;
  laws = held.the_row_laws;
  row = Place.the_row;
  parts = λ d. (d.at, d.alloc, d.value);
  made = λ x. record { at = x.0; alloc = x.1; value = x.2 };
  back = λ x. refl;
  owns = λ d vs. refl;
  boxes = λ a p x. refl;
  last = λ d. tt;
  silent = λ d f. refl;
}
