-- Laws of process events.
use Rattle.std.proofs.Common.{◌≡◌, ◌≢◌, ℕ, ltb, List, length, Ok, Err, refl, arith}
use Rattle.neli_consts_system.specs.ProcEventType.{proc_event_type_of}
use Rattle.neli_consts_system.specs.declared.connector.ProcEventType.{ProcEventType}
use Rattle.neli_consts_system.specs.declared.connector.ProcEventType.TheVariants as kind
use Rattle.neli_genl.specs.ProcEventHeader.{proc_event_bytes, proc_event_of, proc_event_size}
use Rattle.neli_genl.specs.ProcEvents.{event_bytes, event_of, event_size, unknown_text}
use Rattle.neli_genl.specs.declared.proc_event.ProcEvent.{ProcEvent}
use Rattle.neli_genl.specs.declared.proc_event.ProcEvent.TheVariants.{Ack, Fork, Exec, Uid, Gid, Sid, Ptrace, Comm}
use Rattle.neli_genl.specs.declared.proc_event.ProcEvent.TheVariants.{Coredump, Exit}
use Rattle.neli_genl.specs.declared.proc_event_header.ProcEventHeader.{ProcEventHeader}
use Rattle.neli_wire.specs.Bytes.{short}
use Rattle.neli_wire.specs.declared.errors.DeError.{DeError}
use Rattle.neli_wire.specs.declared.errors.DeError.TheVariants.{InvalidInput, Memory, Msg}
use Rattle.neli_wire.specs.Frames.{number_in}
use Rattle.neli_wire.specs.laws.Reading.{bind-not, guard-not}
use Rattle.neli_wire.specs.Writing.{Wire}
use Rattle.neli_wire.specs.laws.Writing.{written-length}

abbrev written : List ℕ → Wire
written bytes = Ok bytes

-- only the input or the type refuses an event
event_of-not : (d : DeError) → ((n : ℕ) → InvalidInput n ≢ d) → ((text : List ℕ) → Msg text ≢ d)
    → (type : ProcEventType) (s : List ℕ) → event_of type s ≢ Err d
event_of-not d input words kind.None s = guard-not (ltb (length s) 20) (InvalidInput (length s)) d _ (input (length s))
    (λ e. cc)
event_of-not d input words kind.Fork s = guard-not (ltb (length s) 32) (InvalidInput (length s)) d _ (input (length s))
    (λ e. cc)
event_of-not d input words kind.Exec s = guard-not (ltb (length s) 24) (InvalidInput (length s)) d _ (input (length s))
    (λ e. cc)
event_of-not d input words kind.Uid s = guard-not (ltb (length s) 32) (InvalidInput (length s)) d _ (input (length s))
    (λ e. cc)
event_of-not d input words kind.Gid s = guard-not (ltb (length s) 32) (InvalidInput (length s)) d _ (input (length s))
    (λ e. cc)
event_of-not d input words kind.Sid s = guard-not (ltb (length s) 24) (InvalidInput (length s)) d _ (input (length s))
    (λ e. cc)
event_of-not d input words kind.Ptrace s = guard-not (ltb (length s) 32)
    (InvalidInput (length s)) d _ (input (length s)) (λ e. cc)
event_of-not d input words kind.Comm s = guard-not (ltb (length s) 40) (InvalidInput (length s)) d _ (input (length s))
    (λ e. cc)
event_of-not d input words kind.Coredump s = guard-not (ltb (length s) 32)
    (InvalidInput (length s)) d _ (input (length s)) (λ e. cc)
event_of-not d input words kind.Exit s = guard-not (ltb (length s) 40) (InvalidInput (length s)) d _ (input (length s))
    (λ e. cc)
event_of-not d input words kind.NonzeroExit s = guard-not (ltb (length s) 40)
    (InvalidInput (length s)) d _ (input (length s)) (λ e. cc)
event_of-not d input words (kind.UnrecognizedConst n) s = λ e. words (unknown_text n) cc

proc_event_of-not : (d : DeError) → ((n : ℕ) → InvalidInput n ≢ d) → ((text : List ℕ) → Msg text ≢ d) → (s : List ℕ)
    → proc_event_of s ≢ Err d
proc_event_of-not d input words s =
    guard-not (ltb (length s) 16) (InvalidInput (length s)) d _ (input (length s))
    (bind-not (event_of (proc_event_type_of (number_in 4 0 s)) s) _ d
    (event_of-not d input words (proc_event_type_of (number_in 4 0 s)) s) (λ event e. cc))

pub proc_event_of-no_memory : (s : List ℕ) → proc_event_of s ≢ Err Memory
proc_event_of-no_memory = proc_event_of-not Memory (λ n e. cc) (λ text e. cc)

pub proc_event_of-never_short : (s : List ℕ) → proc_event_of s ≢ Err short
proc_event_of-never_short = proc_event_of-not short (λ n e. cc) (λ text e. cc)

event_bytes-length : (event : ProcEvent) → length (event_bytes event) ≡ event_size event
event_bytes-length (Ack a) = refl
event_bytes-length (Fork a b c d) = refl
event_bytes-length (Exec a b) = refl
event_bytes-length (Uid a b c d) = refl
event_bytes-length (Gid a b c d) = refl
event_bytes-length (Sid a b) = refl
event_bytes-length (Ptrace a b c d) = refl
event_bytes-length (Comm a b c) = omega arith
event_bytes-length (Coredump a b c d) = refl
event_bytes-length (Exit a b c d e f) = refl

pub proc_event_bytes-length : (h : ProcEventHeader) (bytes : List ℕ) → written (proc_event_bytes h) ≡ Ok bytes
    → length bytes ≡ proc_event_size h
proc_event_bytes-length h bytes e =
    let size : length (proc_event_bytes h) ≡ proc_event_size h = omega (arith, event_bytes-length h.event) in
    written-length (proc_event_bytes h) bytes (proc_event_size h) size e
