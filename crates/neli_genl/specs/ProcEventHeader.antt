-- A process event with its header: `struct proc_event` of linux/cn_proc.h.
use Rattle.std.specs.Prelude.{ℕ, ◌+◌, ◌≤◌, List, ◌++◌, length, nat_lt, Result, Ok, Err, if◌then◌else◌}
use Rattle.neli_consts_system.specs.ProcEventType.{proc_event_type_number, proc_event_type_of}
use Rattle.neli_genl.specs.ProcEvents.{IsPlainEvent, IsUnknown, event_bytes, event_kind, event_of, event_size}
use Rattle.neli_genl.specs.declared.proc_event_header.ProcEventHeader.{ProcEventHeader}
use Rattle.neli_wire.specs.declared.errors.DeError.{DeError}
use Rattle.neli_wire.specs.declared.errors.DeError.TheVariants.{InvalidInput}
use Rattle.neli_wire.specs.Frames.{number_in}
use Rattle.neli_wire.specs.Numbers.{FitsBytes, little_bytes}
use Rattle.neli_wire.specs.Reading.{◌>>=◌}

-- bytes as read: the type at place 0, the processor at 4, the time at 8, and the event from 16 on; the rest is skipped
abbrev pub proc_event_of : List ℕ → Result ProcEventHeader DeError
proc_event_of s =
    if nat_lt (length s) 16 then Err (InvalidInput (length s))
    else (event_of (proc_event_type_of (number_in 4 0 s)) s >>= λ event.
    Ok (record { cpu = number_in 4 4 s; timestamp_ns = number_in 8 8 s; event = event }))

-- the type has no name, so the refusal's message is made
abbrev pub proc_event_takes_memory : List ℕ → Type 0
proc_event_takes_memory s = (16 ≤ length s) × IsUnknown (proc_event_type_of (number_in 4 0 s))

-- the bytes of a process event
abbrev pub proc_event_bytes : ProcEventHeader → List ℕ
proc_event_bytes h =
    little_bytes 4 (proc_event_type_number (event_kind h.event)) ++ little_bytes 4 h.cpu
    ++ little_bytes 8 h.timestamp_ns
    ++ event_bytes h.event

-- its length in bytes
abbrev pub proc_event_size : ProcEventHeader → ℕ
proc_event_size h = 16 + event_size h.event

-- each number fits its field
pub record IsPlainProcEvent (h : ProcEventHeader) : Type 0 where
  pub cpu : FitsBytes 4 h.cpu
  pub timestamp_ns : FitsBytes 8 h.timestamp_ns
  pub event : IsPlainEvent h.event
