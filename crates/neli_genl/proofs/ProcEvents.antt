-- Process events that are written and read again.
use Rattle.std.proofs.Common.{◌≡◌, ℕ, ◌≤◌, Bool, true, false, cond, ltb, List, [], ◌++◌, length, Ok, refl, sym, ap, ◌∙◌}
use Rattle.std.proofs.Common.{arith, length-append}
use Rattle.std.specs.Prelude.{nat_eq}
use Rattle.std.proofs.lemmas.Bool.{le-ltb}
use Rattle.std.proofs.lemmas.List.{append-nil, take_at}
use Rattle.neli_body.specs.Headers.{IsNamed}
use Rattle.neli_body.specs.laws.Headers.{number-back, signed-back, value-back}
use Rattle.neli_consts_system.specs.ProcEventType.{proc_event_type_number, proc_event_type_of}
use Rattle.neli_consts_system.specs.declared.connector.ProcEventType.{ProcEventType}
use Rattle.neli_consts_system.specs.declared.connector.ProcEventType.TheVariants as kind
use Rattle.neli_wire.specs.Frames.{number_in}
use Rattle.neli_wire.specs.Numbers.{little_bytes}
use Rattle.neli_genl.specs.ProcEventHeader.{IsPlainProcEvent, proc_event_bytes, proc_event_of}
use Rattle.neli_genl.specs.ProcEvents.{IsPlainEvent, event_bytes, event_kind, event_of, exit_of}
use Rattle.neli_genl.specs.declared.proc_event.ProcEvent.{ProcEvent}
use Rattle.neli_genl.specs.declared.proc_event.ProcEvent.TheVariants.{Ack, Fork, Exec, Uid, Gid, Sid, Ptrace, Comm}
use Rattle.neli_genl.specs.declared.proc_event.ProcEvent.TheVariants.{Coredump, Exit}
use Rattle.neli_genl.specs.declared.proc_event_header.ProcEventHeader.{ProcEventHeader}

-- ---- types

abbrev IsKind : ProcEventType → Type 0
IsKind = IsNamed 4 proc_event_type_number proc_event_type_of

-- each type that an event is written with has a number, and is read from it
kind-named : (event : ProcEvent) → IsKind (event_kind event)
kind-named (Ack a) = record { fits = omega arith; named = refl }
kind-named (Fork a b c d) = record { fits = omega arith; named = refl }
kind-named (Exec a b) = record { fits = omega arith; named = refl }
kind-named (Uid a b c d) = record { fits = omega arith; named = refl }
kind-named (Gid a b c d) = record { fits = omega arith; named = refl }
kind-named (Sid a b) = record { fits = omega arith; named = refl }
kind-named (Ptrace a b c d) = record { fits = omega arith; named = refl }
kind-named (Comm a b c) = record { fits = omega arith; named = refl }
kind-named (Coredump a b c d) = record { fits = omega arith; named = refl }
kind-named (Exit a b code c d e) = by (nat_eq code 0)
  where
    by : (none : Bool) → IsKind (cond none kind.Exit kind.NonzeroExit)
    by true = record { fits = omega arith; named = refl }
    by false = record { fits = omega arith; named = refl }

-- ---- events, after the 16 bytes of a header

abbrev head : ℕ → ℕ → ℕ → List ℕ
head number cpu time = little_bytes 4 number ++ little_bytes 4 cpu ++ little_bytes 8 time

-- both types of an exit are read alike
exit-either : (none : Bool) (s : List ℕ) → event_of (cond none kind.Exit kind.NonzeroExit) s ≡ exit_of s
exit-either true s = refl
exit-either false s = refl

module _ (number cpu time : ℕ) (rest : List ℕ) where
  abbrev whole : ProcEvent → List ℕ
  whole event = head number cpu time ++ event_bytes event ++ rest

  enough : (n : ℕ) (event : ProcEvent) → n ≤ length (whole event) → ltb (length (whole event)) n ≡ false
  enough n event le = le-ltb (length (whole event)) n le

  event-back : (event : ProcEvent) → IsPlainEvent event → event_of (event_kind event) (whole event) ≡ Ok event
  event-back (Ack a) is = rw (enough 20 (Ack a) (omega arith), number-back 4 a _ is) refl
  event-back (Fork a b c d) is =
      rw (
        enough 32 (Fork a b c d) (omega arith),
        signed-back a _ is.0.0,
        signed-back b _ is.0.1,
        signed-back c _ is.1.0,
        signed-back d _ is.1.1,
      ) refl
  event-back (Exec a b) is = rw (enough 24 (Exec a b) (omega arith), signed-back a _ is.0, signed-back b _ is.1) refl
  event-back (Uid a b c d) is =
      rw (
        enough 32 (Uid a b c d) (omega arith),
        signed-back a _ is.0.0,
        signed-back b _ is.0.1,
        number-back 4 c _ is.1,
        number-back 4 d _ is.2,
      ) refl
  event-back (Gid a b c d) is =
      rw (
        enough 32 (Gid a b c d) (omega arith),
        signed-back a _ is.0.0,
        signed-back b _ is.0.1,
        number-back 4 c _ is.1,
        number-back 4 d _ is.2,
      ) refl
  event-back (Sid a b) is = rw (enough 24 (Sid a b) (omega arith), signed-back a _ is.0, signed-back b _ is.1) refl
  event-back (Ptrace a b c d) is =
      rw (
        enough 32 (Ptrace a b c d) (omega arith),
        signed-back a _ is.0.0,
        signed-back b _ is.0.1,
        signed-back c _ is.1.0,
        signed-back d _ is.1.1,
      ) refl
  event-back (Comm a b c) is =
      rw (
        enough 40 (Comm a b c) (omega (arith, length-append c rest, is.1)),
        signed-back a _ is.0.0,
        signed-back b _ is.0.1,
        take_at c rest 16 is.1,
      ) refl
  event-back (Coredump a b c d) is =
      rw (
        enough 32 (Coredump a b c d) (omega arith),
        signed-back a _ is.0.0,
        signed-back b _ is.0.1,
        signed-back c _ is.1.0,
        signed-back d _ is.1.1,
      ) refl
  event-back (Exit a b c d e f) is =
      exit-either (nat_eq c 0) (whole (Exit a b c d e f))
      ∙ rw (
        enough 40 (Exit a b c d e f) (omega arith),
        signed-back a _ is.0.0,
        signed-back b _ is.0.1,
        number-back 4 c _ is.1,
        number-back 4 d _ is.2,
        signed-back e _ is.3.0,
        signed-back f _ is.3.1,
      ) refl

-- ---- with the header

-- whatever follows it, it is read back
pub proc_event-before : (h : ProcEventHeader) (rest : List ℕ) → IsPlainProcEvent h
    → proc_event_of (proc_event_bytes h ++ rest) ≡ Ok h
proc_event-before h rest is =
    let number = proc_event_type_number (event_kind h.event) in
    let s : List ℕ = proc_event_bytes h ++ rest in
    let long : ltb (length s) 16 ≡ false = le-ltb (length s) 16 (omega arith) in
    let kinds : proc_event_type_of (number_in 4 0 s) ≡ event_kind h.event =
    value-back 4 proc_event_type_number proc_event_type_of (event_kind h.event)
    (little_bytes 4 h.cpu ++ little_bytes 8 h.timestamp_ns ++ event_bytes h.event ++ rest) (kind-named h.event) in
    let event : event_of (proc_event_type_of (number_in 4 0 s)) s ≡ Ok h.event =
    ap (λ (k : ProcEventType). event_of k s) kinds ∙ event-back number h.cpu h.timestamp_ns rest h.event is.event in
    let cpus : number_in 4 4 s ≡ h.cpu = number-back 4 h.cpu
    (little_bytes 8 h.timestamp_ns ++ event_bytes h.event ++ rest) is.cpu in
    let times : number_in 8 8 s ≡ h.timestamp_ns = number-back 8 h.timestamp_ns
    (event_bytes h.event ++ rest) is.timestamp_ns in
    rw (long, event, cpus, times) refl

pub proc_event-back : (h : ProcEventHeader) → IsPlainProcEvent h → proc_event_of (proc_event_bytes h) ≡ Ok h
proc_event-back h is = ap proc_event_of (sym (append-nil (proc_event_bytes h))) ∙ proc_event-before h [] is
