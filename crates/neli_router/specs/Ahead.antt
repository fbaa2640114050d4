-- Items that are lent one after the other.
use Rattle.std.specs.Prelude.{◌≡◌, ℕ, List, [], ◌∷◌, drop, if◌then◌else◌, Option, Some, None, Err}
use Rattle.neli_deliveries.specs.declared.delivery.Delivery.{Delivery}
use Rattle.neli_deliveries.specs.Readings.{Item}
use Rattle.neli_router.specs.Lending.{IsLentReply, untyped}
use Rattle.neli_router.specs.Reads.{handle_after, item_for}
use Rattle.neli_router.specs.declared.handle.HandleState.{HandleState}
use Rattle.neli_router.specs.declared.lending.LentError.TheVariants as error
use Rattle.neli_router.specs.declared.lending.LentReply.{LentReply}
use Rattle.neli_router.specs.declared.lending.LentReply.TheVariants as reply

-- the item that a handle is lent of a delivery
abbrev pub item_at : HandleState → Delivery → Item ℕ (List ℕ)
item_at h d = item_for (λ n. n) h (untyped d)

-- the handle past it
abbrev pub passed : HandleState → Delivery → HandleState
passed h d = handle_after (λ n. n) h (untyped d)

-- ---- what comes next for a handle

-- why no item follows: the handle has ended, nothing more has arrived yet, or it is not open
pub data Stop : Type 0 where
  at_end : Stop
  at_wait : Stop
  not_open : Stop

-- the items that come, in order, and what follows them
pub record Coming : Type 0 where
  pub items : List (Item ℕ (List ℕ))
  pub stop : Stop

abbrev pub none_coming : Stop → Coming
none_coming stop = record { items = []; stop = stop }

abbrev pub before : Item ℕ (List ℕ) → Coming → Coming
before item later = record { items = item ∷ later.items; stop = later.stop }

-- for a handle that is open and for which these deliveries wait
abbrev pub coming_of : HandleState → List Delivery → Coming
coming_of h [] = none_coming (if h.ended then at_end else at_wait)
coming_of h (d ∷ ds) = if h.ended then none_coming at_end else before (item_at h d) (coming_of (passed h d) ds)

-- for any handle, by what waits for it; none if it is not open
abbrev pub coming_for : HandleState → Option (List Delivery) → Coming
coming_for h None = none_coming (if h.ended then at_end else not_open)
coming_for h (Some ds) = coming_of h ds

-- ---- a step of it

-- what is lent where no item follows
abbrev pub lent_at : Stop → LentReply
lent_at at_end = reply.End
lent_at at_wait = reply.Waits
lent_at not_open = reply.Item (Err error.ClosedChannel)

abbrev LendsFirst : List (Item ℕ (List ℕ)) → Stop → LentReply → Type 0
LendsFirst [] stop r = r ≡ lent_at stop
LendsFirst (item ∷ later) stop r = IsLentReply item r

-- the next item is lent, or why there is none
abbrev pub LendsNext : Coming → LentReply → Type 0
LendsNext a r = LendsFirst a.items a.stop r

-- what comes after the next item
abbrev pub after_next : Coming → Coming
after_next a = record { items = drop 1 a.items; stop = a.stop }
