-- What waits for a list from a place on.
use Rattle.std.specs.Prelude.{ℕ, ◌≡◌, List, map, Option, Some}
use Rattle.neli_deliveries.specs.declared.delivery.Delivery.{Delivery}
use Rattle.neli_log.specs.Contents.{AreBacked, delivery_of}
use Rattle.neli_log.specs.Places.{CountsPassed, IsPlace, IsSound, entries_of, rest}
use Rattle.neli_log.specs.Routes.{items_for}
use Rattle.neli_log.specs.Spans.{span_bytes}
use Rattle.neli_log.specs.declared.place.Place.{Place}
use Rattle.neli_log.specs.declared.places.Places.{Places}
use Rattle.neli_log.specs.declared.store.Store.{Store}

-- a place in its stored form, whether or not a list has it
pub record StandsAt {T : Type 0} (w : Option ℕ) (s : Places T) (p : Place) : Type 0 where
  pub is : IsPlace w s.base s.entries.items s.links.items p
  pub counted : (q : ℕ) → w ≡ Some q → CountsPassed s.shared_base s.base s.entries.items p

-- the items that a list waits for from a place on
abbrev pub items_from : {T : Type 0} → Places T → Option ℕ → Place → List T
items_from s w p = items_for w (rest s.base s.entries.items p)

-- the deliveries of these items
abbrev pub deliveries_from : Store → Option ℕ → Place → List Delivery
deliveries_from s w p = map (delivery_of (span_bytes s.datagrams)) (items_from s.places w p)

-- a place among the entries of a log
pub record IsAhead (s : Store) (w : Option ℕ) (p : Place) : Type 0 where
  pub sound : IsSound s.places
  pub backed : AreBacked s.datagrams (entries_of s.places)
  pub stands : StandsAt w s.places p
