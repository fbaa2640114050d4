-- Later events only add deliveries, and change no earlier answer.
use Rattle.std.proofs.Common.{ℕ, ◌≡◌, ◌≢◌, Bool, List, [], ◌∷◌, ◌++◌, Result, sym, ap, ◌∙◌, append_assoc}
use Rattle.std.specs.Prelude.{if◌then◌else◌}
use Rattle.std.proofs.lemmas.List.{append-nil}
use Rattle.neli_wire.specs.declared.errors.DeError.{DeError}
use Rattle.neli_deliveries.specs.declared.delivery.Delivery.{Delivery}
use Rattle.neli_deliveries.specs.Readings.{Item}
use Rattle.neli_router.specs.declared.reply.Reply.{Reply}
use Rattle.neli_router.specs.declared.reply.Reply.TheVariants as reply
use Rattle.neli_runs.specs.Deliveries.{deliveries, handed_over}
use Rattle.neli_runs.specs.History.{History, is_handle_open}
use Rattle.neli_runs.specs.Outcomes.{IsNextAnswer}
use Rattle.neli_runs.specs.laws.Deliveries.{deliveries-more}
use Rattle.neli_runs.proofs.Readings.{readings_append}

module _ {ST SP RT RP : Type 0} (port k : ℕ) where
  pub deliveries-later : (before later : History ST SP RT RP)
      → (more : List Delivery) × (deliveries port k (later ++ before) ≡ deliveries port k before ++ more)
  deliveries-later before [] = ([], sym (append-nil (deliveries port k before)))
  deliveries-later before (e ∷ later) =
      let first = deliveries-later before later in
      let last : List Delivery = if is_handle_open k (later ++ before) then handed_over port k e.0 (later ++ before)
      else [] in (
        first.0 ++ last,
        deliveries-more port k e (later ++ before) ∙ ap (λ ds. ds ++ last) first.1
            ∙ append_assoc (deliveries port k before) first.0 last,
      )

module _ {K P V : Type 0} (type_of : ℕ → K) (number_of : K → ℕ) (view : P → V) (size : P → ℕ) (read : List ℕ
    → Result V DeError) where
  -- an answer other than a wait stays with more deliveries
  pub answer-more : (needs numbered : Bool) (ds more : List Delivery) (given : List (Item K P)) (r : Reply K P)
      → r ≢ reply.Waits
      → IsNextAnswer type_of number_of view size read needs numbered ds given r
      → IsNextAnswer type_of number_of view size read needs numbered (ds ++ more) given r
  answer-more needs numbered ds more given r other h =
      (h.0, readings_append type_of view size read ds more h.0 h.1, h.2, h.3, λ waits. absurd (other waits))
