-- The flags of a dump's messages and of its end (of linux/netlink.h).
use Rattle.std.specs.Prelude.{◌≡◌, ◌==◌, Bool, bit_and}
use Rattle.neli_consts.specs.declared.nlm_f.NlmF.{NlmF}

-- DUMP_INTR (16): the table changed while it was dumped
abbrev pub is_interrupted : NlmF → Bool
is_interrupted flags = bit_and flags.0 16 == 16

-- DUMP_FILTERED (32): the kernel filtered the dump as requested
abbrev pub is_filtered : NlmF → Bool
is_filtered flags = bit_and flags.0 32 == 32

-- the same marks
abbrev pub HasMarksOf : NlmF → NlmF → Type 0
HasMarksOf flags other = (is_interrupted other ≡ is_interrupted flags) × (is_filtered other ≡ is_filtered flags)
