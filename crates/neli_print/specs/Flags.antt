-- The flags of a message by name (`NLM_F_*` of linux/netlink.h).
use Rattle.std.specs.Prelude.{ℕ, ◌-◌, ◌==◌, ◌&&◌, not, Bool, true, false, List, [], ◌∷◌, ◌++◌}
use Rattle.std.specs.Prelude.{codes, bit_and, if◌then◌else◌}
use Rattle.std.specs.Fmt.{digits}
use Rattle.bitflags.specs.Sets.{Row}
use Rattle.neli_tables_walk.specs.Names.{name_text}
use Rattle.neli_print.specs.declared.flags.FlagForm.{FlagForm}
use Rattle.neli_print.specs.declared.flags.FlagForm.TheVariants.{Bars, Strings}
use Rattle.neli_print.specs.declared.flags.Left.{Left}

-- all flags of a set are left
abbrev pub all_left : ℕ → Left
all_left set = record { bits = set; is_first = true }

-- what stands before a flag
abbrev pub mark : FlagForm → Bool → List ℕ
mark Bars true = []
mark Bars false = codes "|"
mark Strings true = codes "\""
mark Strings false = codes ",\""

-- what stands after it
abbrev pub closing : FlagForm → List ℕ
closing Bars = []
closing Strings = codes "\""

-- a row is printed if the set has all of its bits, and some of them are left
abbrev pub is_named : Row → ℕ → ℕ → Bool
is_named row set left = bit_and set row.1 == row.1 && not (bit_and left row.1 == 0)

-- what is left without the bits of a row
abbrev pub left_without : Row → Left → Left
left_without row left = record { bits = bit_and left.bits (4294967295 - row.1); is_first = false }

-- what is left after a row
abbrev pub after_flag : Row → ℕ → Left → Left
after_flag row set left = if is_named row set left.bits then left_without row left else left

-- a row
abbrev pub flag_text : FlagForm → ℕ → Left → Row → List ℕ
flag_text form set left row =
    if is_named row set left.bits
    then mark form left.is_first ++ (codes "NLM_F_" ++ (name_text row.0 ++ closing form)) else []

abbrev pub zero_text : FlagForm → Bool → List ℕ
zero_text Bars true = codes "0"
zero_text form first = []

-- the bits without a name, as one number
abbrev pub rest_text : FlagForm → Left → List ℕ
rest_text form left =
    if left.bits == 0 then zero_text form left.is_first
    else mark form left.is_first ++ (codes "0x" ++ (digits 16 false left.bits ++ closing form))

-- the flags of a set by the names of these rows, of which these are left
abbrev pub flags_from : FlagForm → ℕ → Left → List Row → List ℕ
flags_from form set left [] = rest_text form left
flags_from form set left (row ∷ rows) =
    flag_text form set left row ++ flags_from form set (after_flag row set left) rows
