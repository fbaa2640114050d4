-- A read of a handle's next item, and the step past it.
use Rattle.std.specs.Prelude.{◌≡◌, ◌||◌, ℕ, List, Option, Some, Result}
use Rattle.std.specs.Option.{option_map}
use Rattle.neli_wire.specs.declared.errors.DeError.{DeError}
use Rattle.neli_deliveries.specs.declared.delivery.Delivery.{Delivery}
use Rattle.neli_deliveries.specs.Readings.{IsReading, Item}
use Rattle.neli_router.specs.Rule.{ends_at, has_number, is_single, item_of}
use Rattle.neli_router.specs.Verdicts.{heard_of, heard_with}
use Rattle.neli_router.specs.declared.handle.HandleState.{HandleState}
use Rattle.neli_router.specs.declared.router.NlRouter.{NlRouter}
use Rattle.neli_router.specs.declared.verdict.Heard.{Heard}

module _ {K P : Type 0} (number_of : K → ℕ) where
  -- what a handle returns of a delivery that was read as this item
  abbrev pub item_for : HandleState → Item K P → Item K P
  item_for h x = item_of number_of h.needs_ack (has_number h.number) h.single_given x

  -- the handle then
  abbrev pub handle_after : HandleState → Item K P → HandleState
  handle_after h x = record h {
    single_given = h.single_given || is_single number_of (has_number h.number) x;
    ended = ends_at number_of h.needs_ack (has_number h.number) h.single_given x;
  }

  -- and what is known of the answer then
  abbrev pub known_after : HandleState → Delivery → Item K P → Option Heard → Option Heard
  known_after h d x known =
      option_map (heard_with number_of h.needs_ack (has_number h.number) h.single_given d x) known

-- the handle h goes past the first delivery d, read as the item x: it is h' then, ds still wait, and the item counts for
-- what is known of the answer
pub record GoesPast {K P D : Type 0} (number_of : K → ℕ) (pending : D → Option ℕ → Option (List Delivery)) (d : Delivery)
    (ds : List Delivery) (x : Item K P) (h h' : HandleState) (before after : NlRouter D) : Type 0 where
  pub waits : pending after.deliveries h.number ≡ Some ds
  pub handle : h' ≡ handle_after number_of h x
  pub heard : heard_of after.heard h.number ≡ known_after number_of h d x (heard_of before.heard h.number)

-- the next item is read: the first delivery d is read as an item x of these types, the call returns what the reply rule
-- makes of x, in its own form, and the handle goes past d
pub record IsNextRead {K P V D R : Type 0} (type_of : ℕ → K) (number_of : K → ℕ) (view : P → V) (size : P → ℕ)
    (read : List ℕ → Result V DeError) (pending : D → Option ℕ → Option (List Delivery)) (d : Delivery)
    (ds : List Delivery) (h h' : HandleState) (before after : NlRouter D) (as_result : Item K P → R)
    (given : R) : Type 0 where
  pub x : Item K P
  pub is_read : IsReading type_of view size read d x
  pub is_given : given ≡ as_result (item_for number_of h x)
  pub goes : GoesPast number_of pending d ds x h h' before after
