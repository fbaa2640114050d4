-- The numbers of `NhaResBucket`.
use Rattle.std.specs.Prelude.{ℕ, Bool, true, false, List, [], ◌∷◌}
use Rattle.neli_wire.specs.Constants.{first_with}
use Rattle.neli_consts_linux.specs.declared.next_hops.NhaResBucket.{NhaResBucket}
use Rattle.neli_consts_linux.specs.declared.next_hops.NhaResBucket.TheVariants.{Unspec, Index, IdleTime}
use Rattle.neli_consts_linux.specs.declared.next_hops.NhaResBucket.TheVariants.{NhId, UnrecognizedConst}

-- the number of each variant
abbrev pub nha_res_bucket_number : NhaResBucket → ℕ
nha_res_bucket_number Unspec = 0
nha_res_bucket_number Index = 1
nha_res_bucket_number IdleTime = 2
nha_res_bucket_number NhId = 3
nha_res_bucket_number (UnrecognizedConst n) = n

-- the variants, in their order
abbrev pub nha_res_bucket_variants : List NhaResBucket
nha_res_bucket_variants =
    Unspec ∷ Index ∷ IdleTime ∷ NhId ∷ []

-- the first variant with a number, else the number without a name
abbrev pub nha_res_bucket_of : ℕ → NhaResBucket
nha_res_bucket_of = first_with nha_res_bucket_number nha_res_bucket_variants UnrecognizedConst

-- whether a value is a number without a name
abbrev pub nha_res_bucket_is_unrecognized : NhaResBucket → Bool
nha_res_bucket_is_unrecognized (UnrecognizedConst n) = true
nha_res_bucket_is_unrecognized v = false
