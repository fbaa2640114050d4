-- A read of one handle leaves the right outcomes of all others.
use Rattle.std.proofs.Common.{ℕ, ◌≡◌, ◌≢◌, ◌↔◌, Bool, true, false, All, List, [], ◌∷◌, ◌++◌, refl, sym, ap, subst, ◌∙◌}
use Rattle.std.proofs.Common.{arith}
use Rattle.std.specs.Prelude.{◌==◌, if◌then◌else◌}
use Rattle.std.proofs.lemmas.Bool.Decides.{nat_tests}
use Rattle.std.proofs.lemmas.List.{append-nil}
use Rattle.neli_deliveries.specs.declared.delivery.Delivery.{Delivery}
use Rattle.neli_deliveries.specs.Readings.{Item}
use Rattle.neli_runs.specs.declared.command.Command.{Command}
use Rattle.neli_runs.specs.declared.command.Command.TheVariants as command
use Rattle.neli_runs.specs.declared.command.Outcome.{Outcome}
use Rattle.neli_runs.specs.declared.command.Outcome.TheVariants as outcome
use Rattle.neli_runs.specs.Deliveries.{deliveries}
use Rattle.neli_runs.specs.History.{History, is_handle_open, is_sent, items_of, reads, with_item}
use Rattle.neli_router.specs.declared.reply.Reply.{Reply}
use Rattle.neli_router.specs.declared.reply.Reply.TheVariants as reply
use Rattle.neli_runs.specs.Outcomes.{EachAfter, items_in, outcome_of}
use Rattle.neli_runs.specs.laws.Deliveries.{deliveries-more}
use Rattle.neli_runs.proofs.Alike.{IsAlike, IsSameFor, ReadsOnly, each-after}

-- a read gives its item to its own handle
pub read_items : (ST SP : Type 0) {RT RP : Type 0} (r : Reply RT RP) (theirs : Bool) (items : List (Item RT RP))
    → with_item (outcome_of {ST = ST} {SP = SP} r) theirs items ≡ (if theirs then items ++ items_in r else items)
read_items ST SP (reply.Item item) theirs items = refl
read_items ST SP reply.End true items = sym (append-nil items)
read_items ST SP reply.End false items = refl
read_items ST SP reply.Waits true items = sym (append-nil items)
read_items ST SP reply.Waits false items = refl

another : (j k : ℕ) → k ≢ j → (j == k) ≡ false
another j k other = grind (arith, nat_tests)

pub nothing-added : (live : Bool) (ds : List Delivery) → ds ++ (if live then [] else []) ≡ ds
nothing-added true ds = append-nil ds
nothing-added false ds = append-nil ds

-- a command that does not read j reads only others
pub reads_others : {ST SP : Type 0} (j : ℕ) (c : Command ST SP) → reads j c ≡ false → ReadsOnly (λ k. k ≢ j) c
reads_others j c not_read k read same = let both : reads j c ≡ true = subst (λ n. reads n c ≡ true) same read in cc

module _ {ST SP RT RP : Type 0} (port j : ℕ) where
  items-kept : (o : Outcome ST SP RT RP) (items : List (Item RT RP)) → with_item o false items ≡ items
  items-kept (outcome.Item item) items = refl
  items-kept outcome.Done items = refl
  items-kept (outcome.Sent bytes) items = refl
  items-kept (outcome.NotSent e) items = refl
  items-kept outcome.End items = refl
  items-kept outcome.Waits items = refl
  items-kept outcome.NoHandle items = refl

  -- a read sends and closes nothing
  alike-read : (o : Outcome ST SP RT RP) (h : History ST SP RT RP) → is_sent o ≡ false
      → IsAlike h ((command.Read j, o) ∷ h)
  alike-read o h unsent = record {
    sent = rw unsent refl;
    set = refl;
    counted = rw unsent refl;
    numbers = λ k. rw unsent refl;
    needs = λ k. rw unsent refl;
    closed = λ k. refl;
  }

  same-read : (o : Outcome ST SP RT RP) (h : History ST SP RT RP) → is_sent o ≡ false
      → IsSameFor port (λ k. k ≢ j) h ((command.Read j, o) ∷ h)
  same-read o h unsent = record {
    alike = alike-read o h unsent;
    delivered = λ k other. sym (deliveries-more port k (command.Read j, o) h
        ∙ nothing-added (is_handle_open k h) (deliveries port k h));
    given = λ k other. sym (ap (λ theirs. with_item o theirs (items_of k h)) (another j k other)
        ∙ items-kept o (items_of k h));
  }

  module _ (Kind : Command ST SP → Type 0) (Said : History ST SP RT RP → Command ST SP → Outcome ST SP RT RP → Type 0)
      (respects : (h h' : History ST SP RT RP) → IsSameFor port (λ k. k ≢ j) h h'
      → (c : Command ST SP) (o : Outcome ST SP RT RP) → Kind c → Said h c o → Said h' c o) where
    -- a statement about commands of this kind, with the read and without it
    pub each-read : (o : Outcome ST SP RT RP) (before later : History ST SP RT RP) (commands : List (Command ST SP))
        (outcomes : List (Outcome ST SP RT RP)) → is_sent o ≡ false → All Kind commands
        → EachAfter Said (later ++ before) commands outcomes ↔ EachAfter Said
        (later ++ (command.Read j, o) ∷ before) commands outcomes
    each-read o before later commands outcomes unsent kinds =
        each-after port (λ k. k ≢ j) Kind Said respects before ((command.Read j, o) ∷ before) later commands outcomes
        (same-read o before unsent) kinds
