-- How a process ended, in the number of wait(2): seven bits are a signal, the next means a core file, the eight after
-- these are the process's argument of exit(3).
use Rattle.std.specs.Prelude.{ℕ, ◌/◌, ◌%◌, ◌==◌, ◌&&◌, ◌||◌, Bool, List, ◌++◌, codes, Option, Some, None, false, not, if◌then◌else◌}
use Rattle.std.specs.Fmt.{decimal, digits}

-- the argument of exit(3), if no bit of a signal is set
abbrev pub exited_with : ℕ → Option ℕ
exited_with n = if n % 128 == 0 then Some (n / 256 % 256) else None

-- the signal that killed it: none if all seven bits are set
abbrev pub killed_by : ℕ → Option ℕ
killed_by n = if n % 128 == 0 || n % 128 == 127 then None else Some (n % 128)

-- whether a signal killed it and left a core file
abbrev pub has_core : ℕ → Bool
has_core n = not (n % 128 == 0 || n % 128 == 127) && n / 128 % 2 == 1

-- ---- text

abbrev pub core_text : Bool → List ℕ
core_text core = if core then codes " (core dumped)" else codes ""

-- its text: one of the three
abbrev pub status_text : ℕ → List ℕ
status_text n =
    if n % 128 == 0 then codes "exited with " ++ decimal (n / 256 % 256)
    else if n % 128 == 127 then codes "status 0x" ++ digits 16 false n
    else codes "killed by signal " ++ decimal (n % 128) ++ core_text (n / 128 % 2 == 1)
