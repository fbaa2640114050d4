-- A datagram for groups leaves the right outcomes of every handle except that for multicast.
use Rattle.std.proofs.Common.{ℕ, zero, suc, ◌≡◌, ◌≢◌, ◌↔◌, All, List, [], ◌∷◌, ◌++◌, refl, sym, ap, ◌∙◌}
use Rattle.std.specs.Prelude.{if◌then◌else◌}
use Rattle.neli_reader.specs.Agreement.{untyped_layout}
use Rattle.neli_deliveries.specs.Deliveries.{reader_fault}
use Rattle.neli_deliveries.specs.declared.delivery.Delivery.{Delivery}
use Rattle.neli_runs.specs.declared.command.Command.{Command}
use Rattle.neli_runs.specs.declared.command.Command.TheVariants as command
use Rattle.neli_runs.specs.declared.command.Outcome.{Outcome}
use Rattle.neli_runs.specs.declared.command.Outcome.TheVariants as outcome
use Rattle.neli_runs.specs.Deliveries.{deliveries}
use Rattle.neli_runs.specs.History.{Event, History, is_handle_open}
use Rattle.neli_runs.specs.Outcomes.{EachAfter}
use Rattle.neli_runs.specs.Regrouping.{Bytes, IsWhole}
use Rattle.neli_runs.specs.laws.Deliveries.{deliveries-more}
use Rattle.neli_runs.proofs.Alike.{IsAlike, IsSameFor, deliveries-after, each-after}
use Rattle.neli_runs.proofs.OtherReads.{nothing-added}

module _ {ST SP RT RP : Type 0} (port : ℕ) (b : Bytes) (group : ℕ) (groups : List ℕ)
    (whole : IsWhole untyped_layout b.items) where
  abbrev notified : Event ST SP RT RP
  notified = (command.Datagram b (group ∷ groups), outcome.Done)

  alike-notified : (h : History ST SP RT RP) → IsAlike h (notified ∷ h)
  alike-notified h = record {
    sent = refl;
    set = refl;
    counted = refl;
    numbers = λ k. refl;
    needs = λ k. refl;
    closed = λ k. refl;
  }

  -- a handle with a number gets nothing from it
  same-delivered : (k : ℕ) (h : History ST SP RT RP) → deliveries port (suc k) h
      ≡ deliveries port (suc k) (notified ∷ h)
  same-delivered k h =
      sym (deliveries-more port (suc k) notified h
      ∙ ap (λ (ds : List Delivery). deliveries port (suc k) h ++ (if is_handle_open (suc k) h then ds else []))
      (ap reader_fault whole)
      ∙ nothing-added (is_handle_open (suc k) h) (deliveries port (suc k) h))

  numbered-delivered : (k : ℕ) (h : History ST SP RT RP) → k ≢ 0
      → deliveries port k h ≡ deliveries port k (notified ∷ h)
  numbered-delivered zero h other = absurd (other refl)
  numbered-delivered (suc k) h other = same-delivered k h

  same-notified : (h : History ST SP RT RP) → IsSameFor port (λ k. k ≢ 0) h (notified ∷ h)
  same-notified h = record {
    alike = alike-notified h;
    delivered = λ k other. numbered-delivered k h other;
    given = λ k other. refl;
  }

  -- whatever comes later
  pub notified-deliveries : (k : ℕ) (before later : History ST SP RT RP)
      → deliveries port (suc k) (later ++ notified ∷ before) ≡ deliveries port (suc k) (later ++ before)
  notified-deliveries k before later =
      sym (deliveries-after port (suc k) later before (notified ∷ before) (alike-notified before)
      (same-delivered k before))

  module _ (Kind : Command ST SP → Type 0) (Said : History ST SP RT RP → Command ST SP → Outcome ST SP RT RP → Type 0)
      (respects : (h h' : History ST SP RT RP) → IsSameFor port (λ k. k ≢ 0) h h'
      → (c : Command ST SP) (o : Outcome ST SP RT RP) → Kind c → Said h c o → Said h' c o) where
    -- a statement about commands of this kind, with the datagram and without it
    pub each-notified : (before later : History ST SP RT RP) (commands : List (Command ST SP))
        (outcomes : List (Outcome ST SP RT RP)) → All Kind commands
        → EachAfter Said (later ++ before) commands outcomes
        ↔ EachAfter Said (later ++ notified ∷ before) commands outcomes
    each-notified before later commands outcomes kinds =
        each-after port (λ k. k ≢ 0) Kind Said respects before (notified ∷ before) later commands outcomes
        (same-notified before) kinds
