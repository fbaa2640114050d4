-- The numbers of `NhaResGroup`.
use Rattle.std.specs.Prelude.{ℕ, Bool, true, false, List, [], ◌∷◌}
use Rattle.neli_wire.specs.Constants.{first_with}
use Rattle.neli_consts_linux.specs.declared.next_hops.NhaResGroup.{NhaResGroup}
use Rattle.neli_consts_linux.specs.declared.next_hops.NhaResGroup.TheVariants.{Unspec, Buckets}
use Rattle.neli_consts_linux.specs.declared.next_hops.NhaResGroup.TheVariants.{IdleTimer, UnbalancedTimer}
use Rattle.neli_consts_linux.specs.declared.next_hops.NhaResGroup.TheVariants.{UnbalancedTime, UnrecognizedConst}

-- the number of each variant
abbrev pub nha_res_group_number : NhaResGroup → ℕ
nha_res_group_number Unspec = 0
nha_res_group_number Buckets = 1
nha_res_group_number IdleTimer = 2
nha_res_group_number UnbalancedTimer = 3
nha_res_group_number UnbalancedTime = 4
nha_res_group_number (UnrecognizedConst n) = n

-- the variants, in their order
abbrev pub nha_res_group_variants : List NhaResGroup
nha_res_group_variants =
    Unspec ∷ Buckets ∷ IdleTimer ∷ UnbalancedTimer ∷ UnbalancedTime ∷ []

-- the first variant with a number, else the number without a name
abbrev pub nha_res_group_of : ℕ → NhaResGroup
nha_res_group_of = first_with nha_res_group_number nha_res_group_variants UnrecognizedConst

-- whether a value is a number without a name
abbrev pub nha_res_group_is_unrecognized : NhaResGroup → Bool
nha_res_group_is_unrecognized (UnrecognizedConst n) = true
nha_res_group_is_unrecognized v = false
