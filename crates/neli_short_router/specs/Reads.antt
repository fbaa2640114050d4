-- Reads of a handle, one after another.
use Rattle.std.specs.Prelude.{◌≡◌, ℕ, true, false, List, [], ◌∷◌, Option, Some, None, Result, Err, ◌⊎◌}
use Rattle.neli_wire.specs.declared.errors.DeError.{DeError}
use Rattle.neli_reader.specs.RouterError.TheVariants as router
use Rattle.neli_deliveries.specs.declared.delivery.Delivery.{Delivery}
use Rattle.neli_deliveries.specs.Readings.{IsReading, Item}
use Rattle.neli_router.specs.declared.handle.HandleState.{HandleState}
use Rattle.neli_router.specs.declared.router.NlRouter.{NlRouter}
use Rattle.neli_router.specs.declared.verdict.Heard.{Heard}
use Rattle.neli_router.specs.Reads.{handle_after, item_for, known_after}
use Rattle.neli_router.specs.Same.{SameButHandle}

-- where the reading of a handle stands: its state, what waits for it if it is open, and what is known of the answer
pub record Stand : Type 0 where
  pub handle : HandleState
  pub waits : Option (List Delivery)
  pub heard : Option Heard

-- that of a handle of a router
abbrev pub standing : HandleState → (Option ℕ → Option (List Delivery)) → (Option ℕ → Option Heard) → Stand
standing handle pending heard =
    record { handle = handle; waits = pending handle.number; heard = heard handle.number }

-- what reads of a handle leave: its number, what the router gave up, and all but this handle
abbrev pub LeavesRest : {D A : Type 0} → (D → ℕ) → (D → Option ℕ → A) → (h t : HandleState) → (r s : NlRouter D)
    → Type 0
LeavesRest port_of pending h t r s =
    (t.number ≡ h.number) × (s.given_up ≡ r.given_up) × SameButHandle port_of pending h.number r s

-- a read returns no item: the handle has ended, or nothing waits
abbrev pub HasNoItem : Stand → Type 0
HasNoItem s = (s.handle.ended ≡ true) ⊎ (s.waits ≡ Some [])

-- how reading stands after the first delivery was read as this item
abbrev pub stand_after : {K P : Type 0} → (K → ℕ) → HandleState → Delivery → List Delivery → Option Heard → Item K P
    → Stand
stand_after number_of handle d ds heard item = record {
  handle = handle_after number_of handle item;
  waits = Some ds;
  heard = known_after number_of handle d item heard;
}

module _ {K P V : Type 0} (type_of : ℕ → K) (number_of : K → ℕ) (view : P → V) (size : P → ℕ) (read : List ℕ
    → Result V DeError) where
  -- a handle that is not open returns `ClosedChannel`, and has ended then; an open one returns its first delivery, as
  -- the reply rule says
  abbrev pub Gives : HandleState → Option (List Delivery) → Option Heard → Item K P → Stand → Type 0
  Gives handle None heard x t =
      (x ≡ Err router.ClosedChannel)
      × (t ≡ record { handle = record handle { ended = true }; waits = None; heard = heard })
  Gives handle (Some []) heard x t = ⊥
  Gives handle (Some (d ∷ ds)) heard x t =
      (item : Item K P) × IsReading type_of view size read d item
      × (x ≡ item_for number_of handle item)
      × (t ≡ stand_after number_of handle d ds heard item)

  -- a read returns this item, and reading stands so then
  abbrev pub IsRead : Stand → Item K P → Stand → Type 0
  IsRead s x t = (s.handle.ended ≡ false) × Gives s.handle s.waits s.heard x t

  -- reads return these items, one after another, and reading stands so then
  abbrev pub AreReads : Stand → List (Item K P) → Stand → Type 0
  AreReads s [] t = t ≡ s
  AreReads s (x ∷ xs) u = (t : Stand) × IsRead s x t × AreReads t xs u
