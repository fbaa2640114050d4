-- The flags of messages by name (`NLM_F_*` of `linux/netlink.h`): the meaning of the bits from 0x100 on depends on the
-- type.
use Rattle.std.specs.Prelude.{ℕ, ◌%◌, ◌==◌, ◌||◌, Bool, not, List, [], ◌∷◌, ◌++◌, codes, nat_lt}
use Rattle.std.specs.Prelude.{if◌then◌else◌}
use Rattle.std.specs.Borrow.{Bor}
use Rattle.bitflags.specs.Sets.{Row}

-- a row of the code's tables
abbrev pub flag_view : ℕ × Bor (List ℕ) → Row
flag_view row = (row.1.now, row.0)

-- the flags of every message
abbrev pub common : List Row
common =
    (codes "REQUEST", 1) ∷ (codes "MULTI", 2) ∷ (codes "ACK", 4) ∷ (codes "ECHO", 8) ∷
    (codes "DUMP_INTR", 0x10) ∷ (codes "DUMP_FILTERED", 0x20) ∷ []

-- and those of a message that makes, that deletes, that asks, that answers
abbrev pub making : List Row
making =
    common ++ (codes "REPLACE", 0x100) ∷ (codes "EXCL", 0x200) ∷ (codes "CREATE", 0x400) ∷
    (codes "APPEND", 0x800) ∷ []

abbrev pub deleting : List Row
deleting = common ++ (codes "NONREC", 0x100) ∷ (codes "BULK", 0x200) ∷ []

abbrev pub asking : List Row
asking = common ++ (codes "DUMP", 0x300) ∷ (codes "ROOT", 0x100) ∷ (codes "MATCH", 0x200) ∷ (codes "ATOMIC", 0x400) ∷ []

abbrev pub answering : List Row
answering = common ++ (codes "CAPPED", 0x100) ∷ (codes "ACK_TLVS", 0x200) ∷ []

-- of another protocol: a request for a dump has both bits
abbrev pub other : List Row
other = common ++ (codes "DUMP", 0x300) ∷ []

-- the flags of a type: 2 and 3 answer, and types of routing come in fours, new, delete, get and set
abbrev pub flag_rows : Bool → ℕ → List Row
flag_rows is_route number =
    if number == 2 || number == 3 then answering
    else if nat_lt number 16 then common
    else if not is_route then other
    else if number % 4 == 0 then making
    else if number % 4 == 1 then deleting
    else if number % 4 == 2 then asking
    else common
