-- Runs, one command further.
use Rattle.std.proofs.Common.{ℕ, ◌≡◌, List, [], ◌∷◌, ◌++◌, Some, None, Result, length, refl, sym, subst, ◌∙◌, arith}
use Rattle.std.proofs.lemmas.List.{append-nil}
use Rattle.std.specs.List.{slice_get}
use Rattle.neli_wire.specs.declared.errors.DeError.{DeError}
use Rattle.neli_wire.specs.Writing.{Wire}
use Rattle.neli_runs.specs.declared.command.Command.{Command}
use Rattle.neli_runs.specs.declared.command.Outcome.{Outcome}
use Rattle.neli_runs.specs.History.{History, past}
use Rattle.neli_runs.specs.Outcomes.{EachAfter, IsAnswered, IsSent}
use Rattle.neli_runs.specs.OpenRuns.{GoesOn}
use Rattle.neli_runs.specs.laws.Kept.{Handles, Holds, IsStep, Pending, StepIsRight, StepKeeps, multicast}
use Rattle.neli_runs.proofs.Steps.{agrees_start}

module _ {ST SP RT RP : Type 0} where
  module _ (Said : History ST SP RT RP → Command ST SP → Outcome ST SP RT RP → Type 0) where
    pub past_push : (h : History ST SP RT RP) (cs : List (Command ST SP)) (os : List (Outcome ST SP RT RP))
        (c : Command ST SP) (o : Outcome ST SP RT RP) → EachAfter Said h cs os
        → past h (cs ++ c ∷ []) (os ++ o ∷ []) ≡ (c, o) ∷ past h cs os
    past_push h [] [] c o each = refl
    past_push h [] (x ∷ os) c o each = absurd each
    past_push h (d ∷ cs) [] c o each = absurd each
    past_push h (d ∷ cs) (x ∷ os) c o each = past_push ((d, x) ∷ h) cs os c o each.1

    pub each_push : (h : History ST SP RT RP) (cs : List (Command ST SP)) (os : List (Outcome ST SP RT RP))
        (c : Command ST SP) (o : Outcome ST SP RT RP) → EachAfter Said h cs os → Said (past h cs os) c o
        → EachAfter Said h (cs ++ c ∷ []) (os ++ o ∷ [])
    each_push h [] [] c o each is = (is, tt)
    each_push h [] (x ∷ os) c o each is = absurd each
    each_push h (d ∷ cs) [] c o each is = absurd each
    each_push h (d ∷ cs) (x ∷ os) c o each is = (each.0, each_push ((d, x) ∷ h) cs os c o each.1 is)

  pub each_map : (P Q : History ST SP RT RP → Command ST SP → Outcome ST SP RT RP → Type 0)
      → ((h : History ST SP RT RP) (c : Command ST SP) (o : Outcome ST SP RT RP) → P h c o → Q h c o)
      → (h : History ST SP RT RP) (cs : List (Command ST SP)) (os : List (Outcome ST SP RT RP)) → EachAfter P h cs os
      → EachAfter Q h cs os
  each_map P Q f h [] [] each = tt
  each_map P Q f h [] (o ∷ os) each = each
  each_map P Q f h (c ∷ cs) [] each = each
  each_map P Q f h (c ∷ cs) (o ∷ os) each = (f h c o each.0, each_map P Q f ((c, o) ∷ h) cs os each.1)

-- all commands are done if none remains
pub nothing-left : {A : Type 0} (front rest all : List A) → length rest ≡ 0 → front ++ rest ≡ all → front ≡ all
nothing-left front [] all none e = sym (append-nil front) ∙ e
nothing-left front (x ∷ rest) all none e = absurd (omega (arith, none))

-- ---- the invariant

module _ (ST SP : Type 0) {K P V : Type 0} (type_of : ℕ → K) (number : K → ℕ) (view : P → V) (size : P
    → ℕ) (read : List ℕ → Result V DeError) where
  -- at the start
  pub holds_start : (pid next : ℕ) (pending : Pending) (handles : Handles) → next ≡ 0 → pending None ≡ Some []
      → ((q : ℕ) → pending (Some q) ≡ None) → handles ≡ Some multicast ∷ []
      → Holds {ST = ST} {SP = SP} type_of number view size read pid next pending handles []
  holds_start pid next pending handles zeroth empty numbers one =
      rw (zeroth, one) (agrees_start ST SP type_of number view size read pid pending
      (λ k. slice_get (Some multicast ∷ []) k) empty numbers refl (λ k. refl))

module _ {ST SP K P V : Type 0} (type_of : ℕ → K) (number : K → ℕ) (view : P → V) (size : P → ℕ) (read : List ℕ
    → Result V DeError) where
  -- after one more command
  pub went : (Said : ℕ → History ST SP K P → Command ST SP → Outcome ST SP K P
      → Type 0) (pid port next next' : ℕ) (pending pending' : Pending) (handles handles' : Handles) (c : Command ST SP)
      (o : Outcome ST SP K P) (h : History ST SP K P) → port ≡ pid
      → StepKeeps type_of number view size read (Said port) port next pending handles next' pending' handles' c o
      → Holds type_of number view size read pid next pending handles h
      → Said pid h c o × Holds type_of number view size read pid next' pending' handles' ((c, o) ∷ h)
  went Said pid port next next' pending pending' handles handles' c o h e goes =
      subst (λ p. StepKeeps type_of number view size read
      (Said p) p next pending handles next' pending' handles' c o) e goes h

module _ {ST SP K P V : Type 0} (type_of : ℕ → K) (number : K → ℕ) (view : P → V) (size : P → ℕ) (read : List ℕ
    → Result V DeError) (number_of : ST → ℕ) (wire : SP → Wire) (wire_size : SP → ℕ) where
  -- a step of a session goes on with all that was done
  pub goes_on : (port port' next next' : ℕ) (pending pending' : Pending) (handles handles' : Handles) (c : Command ST SP)
      (o : Outcome ST SP K P) → port' ≡ port
      → IsStep type_of number view size read number_of wire wire_size port next pending handles next' pending' handles' c o
      → GoesOn type_of number view size read number_of wire wire_size port next pending handles port' next' pending' handles'
      c o
  goes_on port port' next next' pending pending' handles handles' c o same goes pid cs os done =
      let one = went type_of number view size read
      (StepIsRight type_of number view size read number_of wire wire_size) pid port next next' pending pending' handles
      handles' c o (past [] cs os) done.same_port goes done.holds in
      record {
        same_port = same ∙ done.same_port;
        sent = each_push (IsSent number_of wire wire_size pid) [] cs os c o done.sent one.0.0;
        answered = each_push (IsAnswered type_of number view size read pid) [] cs os c o done.answered one.0.1;
        holds = rw (past_push (IsSent number_of wire wire_size pid) [] cs os c o done.sent) one.1;
      }
