-- Handles of traffic control, as `tc` prints them.
use Rattle.std.specs.Prelude.{ℕ, ◌/◌, ◌%◌, List, [], ◌++◌, codes, false, nat_eq, if◌then◌else◌}
use Rattle.std.specs.Fmt.{digits}

-- a half of a handle: its number in hexadecimal, or nothing for 0
abbrev pub handle_part : ℕ → List ℕ
handle_part n = if nat_eq n 0 then [] else digits 16 false n

-- the two halves, the upper one first; two handles have names
abbrev pub handle_text : ℕ → List ℕ
handle_text n =
    if nat_eq n 0 then codes "none"
    else if nat_eq n 4294967295 then codes "root"
    else handle_part (n / 65536) ++ codes ":" ++ handle_part (n % 65536)
