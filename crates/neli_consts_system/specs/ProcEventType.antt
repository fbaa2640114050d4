-- The numbers of `ProcEventType`.
use Rattle.std.specs.Prelude.{ℕ, Bool, true, false, List, [], ◌∷◌}
use Rattle.neli_wire.specs.Constants.{first_with}
use Rattle.neli_consts_system.specs.declared.connector.ProcEventType.{ProcEventType}
use Rattle.neli_consts_system.specs.declared.connector.ProcEventType.TheVariants.{None, Fork, Exec, Uid, Gid, Sid}
use Rattle.neli_consts_system.specs.declared.connector.ProcEventType.TheVariants.{Ptrace, Comm, NonzeroExit, Coredump}
use Rattle.neli_consts_system.specs.declared.connector.ProcEventType.TheVariants.{Exit, UnrecognizedConst}

-- the number of each variant
abbrev pub proc_event_type_number : ProcEventType → ℕ
proc_event_type_number None = 0
proc_event_type_number Fork = 1
proc_event_type_number Exec = 2
proc_event_type_number Uid = 4
proc_event_type_number Gid = 0x40
proc_event_type_number Sid = 0x80
proc_event_type_number Ptrace = 0x100
proc_event_type_number Comm = 0x200
proc_event_type_number NonzeroExit = 0x20000000
proc_event_type_number Coredump = 0x40000000
proc_event_type_number Exit = 0x80000000
proc_event_type_number (UnrecognizedConst n) = n

-- the variants, in their order
abbrev pub proc_event_type_variants : List ProcEventType
proc_event_type_variants =
    None ∷ Fork ∷ Exec ∷ Uid ∷ Gid ∷ Sid ∷ Ptrace ∷ Comm ∷ NonzeroExit ∷ Coredump ∷ Exit ∷ []

-- the first variant with a number, else the number without a name
abbrev pub proc_event_type_of : ℕ → ProcEventType
proc_event_type_of = first_with proc_event_type_number proc_event_type_variants UnrecognizedConst

-- whether a value is a number without a name
abbrev pub proc_event_type_is_unrecognized : ProcEventType → Bool
proc_event_type_is_unrecognized (UnrecognizedConst n) = true
proc_event_type_is_unrecognized v = false
