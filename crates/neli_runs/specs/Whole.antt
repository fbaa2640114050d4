-- An answer that was read to its end.
use Rattle.std.specs.Prelude.{◌≡◌, ◌≤◌, ℕ, suc, pos, Bool, true, false, List, length, take, nat_lt, Some, Result, Ok}
use Rattle.std.specs.List.{list_any, slice_get}
use Rattle.neli_wire.specs.declared.errors.DeError.{DeError}
use Rattle.neli_reader.specs.Framed.{Nlmsghdr}
use Rattle.neli_reader.specs.Retyping.{IsTyped}
use Rattle.neli_deliveries.specs.declared.delivery.Delivery.{Delivery}
use Rattle.neli_deliveries.specs.declared.delivery.Delivery.TheVariants as delivery
use Rattle.neli_deliveries.specs.Readings.{Item}
use Rattle.neli_router.specs.Rule.{is_answer, last_place}
use Rattle.neli_router.specs.Verdicts.{end_code, given_of, is_flagged}

-- the answers to a handle with these deliveries, the first of which are read as these items, have ended; the reads
-- returned all items up to the end, each once, in order and as it was read; each is a message of the handle's own; none
-- is marked as interrupted; and the last has no code but 0
pub record IsWholeAnswer {K P V : Type 0} (type_of : ℕ → K) (number_of : K → ℕ) (view : P → V) (size : P
    → ℕ) (read : List ℕ → Result V DeError) (needs numbered : Bool) (ds : List Delivery)
    (items : List (Item K P)) : Type 0 where
  pub ended : nat_lt (last_place number_of needs numbered items) (length items) ≡ true
  pub all : given_of number_of needs numbered items ≡ take (suc (last_place number_of needs numbered items)) items
  pub own : (i : ℕ) → suc i ≤ suc (last_place number_of needs numbered items)
      → (u : Nlmsghdr ℕ (List ℕ)) × (slice_get ds i ≡ Some (delivery.Message u))
      × ((m : Nlmsghdr K P) × (slice_get items i ≡ Some (Ok m)) × IsTyped type_of view size read u m)
  pub unmarked : list_any (is_flagged 16) (given_of number_of needs numbered items) ≡ false
  pub code : (m : Nlmsghdr K P) → slice_get items (last_place number_of needs numbered items) ≡ Some (Ok m)
      → end_code m.payload ≡ pos 0

-- ---- an answer by a dump

-- each message of type 2 (NLMSG_ERROR) is an acknowledgement or an error, as every one is that a read returns
abbrev pub AreAnswers : {K P : Type 0} → (K → ℕ) → List (Item K P) → Type 0
AreAnswers {K} {P} number_of items =
    (i : ℕ) (m : Nlmsghdr K P) → slice_get items i ≡ Some (Ok m) → number_of m.header.message_type ≡ 2
    → is_answer m.payload ≡ true

-- the item at which the answers end is the end of a dump (type 3, NLMSG_DONE), with code 0
abbrev pub EndsDump : {K P : Type 0} → (K → ℕ) → List (Item K P) → Type 0
EndsDump {K} {P} number_of items =
    (m : Nlmsghdr K P) × (slice_get items (last_place number_of false true items) ≡ Some (Ok m))
    × (number_of m.header.message_type ≡ 3) × (end_code m.payload ≡ pos 0)
