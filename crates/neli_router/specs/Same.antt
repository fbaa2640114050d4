-- What a call leaves as it was, of all that a router has: its port, the number of its next request, the deliveries that
-- wait, what is known of answers, what was given up, and what listeners missed.
use Rattle.std.specs.Prelude.{◌≡◌, ℕ, Option}
use Rattle.neli_deliveries.specs.Lists.{SameListsBut}
use Rattle.neli_router.specs.Verdicts.{heard_of}
use Rattle.neli_router.specs.declared.router.NlRouter.{NlRouter}

-- the same but for the request that is sent, or refused: its number, its list, and what is known of its answer
pub record SameButRequest {D : Type 0} (port_of : D → ℕ) (before after : NlRouter D) : Type 0 where
  pub port : port_of after.deliveries ≡ port_of before.deliveries
  pub given_up : after.given_up ≡ before.given_up
  pub missed : after.missed ≡ before.missed

-- the same but for what waits, what was given up, and what listeners missed
pub record SameButDeliveries {D : Type 0} (port_of : D → ℕ) (before after : NlRouter D) : Type 0 where
  pub port : port_of after.deliveries ≡ port_of before.deliveries
  pub next_seq : after.next_seq ≡ before.next_seq
  pub heard : after.heard ≡ before.heard

-- the same but for one handle, by its number or as that of multicast, and for what was given up: what waits for any
-- other handle, and what is known of its answer, stays
pub record SameButHandle {D A : Type 0} (port_of : D → ℕ) (pending : D → Option ℕ → A) (whose : Option ℕ)
    (before after : NlRouter D) : Type 0 where
  pub port : port_of after.deliveries ≡ port_of before.deliveries
  pub next_seq : after.next_seq ≡ before.next_seq
  pub missed : after.missed ≡ before.missed
  pub lists : SameListsBut whose (pending before.deliveries) (pending after.deliveries)
  pub heard : SameListsBut whose (heard_of before.heard) (heard_of after.heard)
