-- Process events: `struct proc_event` of linux/cn_proc.h, whose union follows a header of 16 bytes.
use Rattle.std.specs.Prelude.{◌≡◌, ℕ, ℤ, ◌+◌, List, ◌++◌, codes, drop, length, nat_eq, nat_lt, take, FitsSigned, Result}
use Rattle.std.specs.Prelude.{Ok, Err, if◌then◌else◌}
use Rattle.std.specs.Fmt.{decimal}
use Rattle.std.specs.Int.{w32}
use Rattle.neli_consts_system.specs.declared.connector.ProcEventType.{ProcEventType}
use Rattle.neli_consts_system.specs.declared.connector.ProcEventType.TheVariants as kind
use Rattle.neli_genl.specs.declared.proc_event.ProcEvent.{ProcEvent}
use Rattle.neli_genl.specs.declared.proc_event.ProcEvent.TheVariants.{Ack, Fork, Exec, Uid, Gid, Sid, Ptrace, Comm}
use Rattle.neli_genl.specs.declared.proc_event.ProcEvent.TheVariants.{Coredump, Exit}
use Rattle.neli_wire.specs.declared.errors.DeError.{DeError}
use Rattle.neli_wire.specs.declared.errors.DeError.TheVariants.{InvalidInput, Msg}
use Rattle.neli_wire.specs.Frames.{number_in}
use Rattle.neli_wire.specs.Numbers.{FitsBytes, little_bytes, signed_bytes, signed_number}

-- the signed number in the four bytes from place i
abbrev pub signed_in : ℕ → List ℕ → ℤ
signed_in i s = signed_number w32 4 (drop i s)

-- an event of this size, if there are enough bytes
abbrev pub event_of_size : ℕ → (List ℕ → ProcEvent) → List ℕ → Result ProcEvent DeError
event_of_size size event s = if nat_lt (length s) (16 + size) then Err (InvalidInput (length s)) else Ok (event s)

-- ---- the events, each with its size and its fields by their places

-- err
abbrev pub ack_of : List ℕ → Result ProcEvent DeError
ack_of = event_of_size 4 (λ s. Ack (number_in 4 16 s))

-- parent_pid, parent_tgid, child_pid, child_tgid
abbrev pub fork_of : List ℕ → Result ProcEvent DeError
fork_of = event_of_size 16 (λ s. Fork (signed_in 16 s) (signed_in 20 s) (signed_in 24 s) (signed_in 28 s))

-- process_pid, process_tgid
abbrev pub exec_of : List ℕ → Result ProcEvent DeError
exec_of = event_of_size 8 (λ s. Exec (signed_in 16 s) (signed_in 20 s))

-- process_pid, process_tgid, ruid, euid
abbrev pub uid_of : List ℕ → Result ProcEvent DeError
uid_of = event_of_size 16 (λ s. Uid (signed_in 16 s) (signed_in 20 s) (number_in 4 24 s) (number_in 4 28 s))

-- process_pid, process_tgid, rgid, egid
abbrev pub gid_of : List ℕ → Result ProcEvent DeError
gid_of = event_of_size 16 (λ s. Gid (signed_in 16 s) (signed_in 20 s) (number_in 4 24 s) (number_in 4 28 s))

-- process_pid, process_tgid
abbrev pub sid_of : List ℕ → Result ProcEvent DeError
sid_of = event_of_size 8 (λ s. Sid (signed_in 16 s) (signed_in 20 s))

-- process_pid, process_tgid, tracer_pid, tracer_tgid
abbrev pub ptrace_of : List ℕ → Result ProcEvent DeError
ptrace_of = event_of_size 16 (λ s. Ptrace (signed_in 16 s) (signed_in 20 s) (signed_in 24 s) (signed_in 28 s))

-- process_pid, process_tgid, comm
abbrev pub comm_of : List ℕ → Result ProcEvent DeError
comm_of = event_of_size 24 (λ s. Comm (signed_in 16 s) (signed_in 20 s) (take 16 (drop 24 s)))

-- process_pid, process_tgid, parent_pid, parent_tgid
abbrev pub coredump_of : List ℕ → Result ProcEvent DeError
coredump_of = event_of_size 16 (λ s. Coredump (signed_in 16 s) (signed_in 20 s) (signed_in 24 s) (signed_in 28 s))

-- process_pid, process_tgid, exit_code, exit_signal, parent_pid, parent_tgid
abbrev pub exit_of : List ℕ → Result ProcEvent DeError
exit_of = event_of_size 24 (λ s. Exit (signed_in 16 s) (signed_in 20 s) (number_in 4 24 s) (number_in 4 28 s)
    (signed_in 32 s) (signed_in 36 s))

-- the text for a type without a name
abbrev pub unknown_text : ℕ → List ℕ
unknown_text n = codes "Unrecognized Proc event type: " ++ decimal n ++ codes " (raw value: " ++ decimal n ++ codes ")"

-- the refusal of a type without a name
abbrev pub unknown_event : ℕ → Result ProcEvent DeError
unknown_event n = Err (Msg (unknown_text n))

-- the event of a type, in bytes that begin with its header
abbrev pub event_of : ProcEventType → List ℕ → Result ProcEvent DeError
event_of kind.None = ack_of
event_of kind.Fork = fork_of
event_of kind.Exec = exec_of
event_of kind.Uid = uid_of
event_of kind.Gid = gid_of
event_of kind.Sid = sid_of
event_of kind.Ptrace = ptrace_of
event_of kind.Comm = comm_of
event_of kind.Coredump = coredump_of
event_of kind.Exit = exit_of
event_of kind.NonzeroExit = exit_of
event_of (kind.UnrecognizedConst n) = λ s. unknown_event n

-- the type has no name
abbrev pub IsUnknown : ProcEventType → Type 0
IsUnknown (kind.UnrecognizedConst n) = Unit {0}
IsUnknown known = ⊥

-- ---- writing

-- the type that an event is written with
abbrev pub event_kind : ProcEvent → ProcEventType
event_kind (Ack a) = kind.None
event_kind (Fork a b c d) = kind.Fork
event_kind (Exec a b) = kind.Exec
event_kind (Uid a b c d) = kind.Uid
event_kind (Gid a b c d) = kind.Gid
event_kind (Sid a b) = kind.Sid
event_kind (Ptrace a b c d) = kind.Ptrace
event_kind (Comm a b c) = kind.Comm
event_kind (Coredump a b c d) = kind.Coredump
event_kind (Exit a b code c d e) = if nat_eq code 0 then kind.Exit else kind.NonzeroExit

-- the bytes of four signed numbers
abbrev pub four_numbers : ℤ → ℤ → ℤ → ℤ → List ℕ
four_numbers a b c d = signed_bytes w32 4 a ++ signed_bytes w32 4 b ++ signed_bytes w32 4 c ++ signed_bytes w32 4 d

-- the bytes of an event
abbrev pub event_bytes : ProcEvent → List ℕ
event_bytes (Ack a) = little_bytes 4 a
event_bytes (Fork a b c d) = four_numbers a b c d
event_bytes (Exec a b) = signed_bytes w32 4 a ++ signed_bytes w32 4 b
event_bytes (Uid a b c d) = signed_bytes w32 4 a ++ signed_bytes w32 4 b ++ little_bytes 4 c ++ little_bytes 4 d
event_bytes (Gid a b c d) = signed_bytes w32 4 a ++ signed_bytes w32 4 b ++ little_bytes 4 c ++ little_bytes 4 d
event_bytes (Sid a b) = signed_bytes w32 4 a ++ signed_bytes w32 4 b
event_bytes (Ptrace a b c d) = four_numbers a b c d
event_bytes (Comm a b c) = signed_bytes w32 4 a ++ signed_bytes w32 4 b ++ c
event_bytes (Coredump a b c d) = four_numbers a b c d
event_bytes (Exit a b c d e f) = signed_bytes w32 4 a ++ signed_bytes w32 4 b ++ little_bytes 4 c ++ little_bytes 4 d
    ++ signed_bytes w32 4 e ++ signed_bytes w32 4 f

-- the length of an event in bytes
abbrev pub event_size : ProcEvent → ℕ
event_size (Ack a) = 4
event_size (Fork a b c d) = 16
event_size (Exec a b) = 8
event_size (Uid a b c d) = 16
event_size (Gid a b c d) = 16
event_size (Sid a b) = 8
event_size (Ptrace a b c d) = 16
event_size (Comm a b c) = 8 + length c
event_size (Coredump a b c d) = 16
event_size (Exit a b c d e f) = 24

-- ---- fields

-- two signed numbers fit four bytes each
abbrev pub BothFitI32 : ℤ → ℤ → Type 0
BothFitI32 a b = FitsSigned w32 a × FitsSigned w32 b

-- each number of the event fits its field, and a name has 16 bytes
abbrev pub IsPlainEvent : ProcEvent → Type 0
IsPlainEvent (Ack a) = FitsBytes 4 a
IsPlainEvent (Fork a b c d) = BothFitI32 a b × BothFitI32 c d
IsPlainEvent (Exec a b) = BothFitI32 a b
IsPlainEvent (Uid a b c d) = BothFitI32 a b × FitsBytes 4 c × FitsBytes 4 d
IsPlainEvent (Gid a b c d) = BothFitI32 a b × FitsBytes 4 c × FitsBytes 4 d
IsPlainEvent (Sid a b) = BothFitI32 a b
IsPlainEvent (Ptrace a b c d) = BothFitI32 a b × BothFitI32 c d
IsPlainEvent (Comm a b c) = BothFitI32 a b × (length c ≡ 16)
IsPlainEvent (Coredump a b c d) = BothFitI32 a b × BothFitI32 c d
IsPlainEvent (Exit a b c d e f) = BothFitI32 a b × FitsBytes 4 c × FitsBytes 4 d × BothFitI32 e f
