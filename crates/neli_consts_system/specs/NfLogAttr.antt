-- The numbers of `NfLogAttr`.
use Rattle.std.specs.Prelude.{ℕ, Bool, true, false, List, [], ◌∷◌}
use Rattle.neli_wire.specs.Constants.{first_with}
use Rattle.neli_consts_system.specs.declared.netfilter.NfLogAttr.{NfLogAttr}
use Rattle.neli_consts_system.specs.declared.netfilter.NfLogAttr.TheVariants.{PacketHdr, Mark, Timestamp, IfindexIndev}
use Rattle.neli_consts_system.specs.declared.netfilter.NfLogAttr.TheVariants.{IfindexOutdev, IfindexPhyindev}
use Rattle.neli_consts_system.specs.declared.netfilter.NfLogAttr.TheVariants.{IfindexPhyoutdev, Hwaddr, Payload, Prefix}
use Rattle.neli_consts_system.specs.declared.netfilter.NfLogAttr.TheVariants.{Uid, Seq, SeqGlobal, Gid, Hwtype}
use Rattle.neli_consts_system.specs.declared.netfilter.NfLogAttr.TheVariants.{Hwheader, Hwlen, Ct, CtInfo}
use Rattle.neli_consts_system.specs.declared.netfilter.NfLogAttr.TheVariants.{UnrecognizedConst}

-- the number of each variant
abbrev pub nf_log_attr_number : NfLogAttr → ℕ
nf_log_attr_number PacketHdr = 1
nf_log_attr_number Mark = 2
nf_log_attr_number Timestamp = 3
nf_log_attr_number IfindexIndev = 4
nf_log_attr_number IfindexOutdev = 5
nf_log_attr_number IfindexPhyindev = 6
nf_log_attr_number IfindexPhyoutdev = 7
nf_log_attr_number Hwaddr = 8
nf_log_attr_number Payload = 9
nf_log_attr_number Prefix = 10
nf_log_attr_number Uid = 11
nf_log_attr_number Seq = 12
nf_log_attr_number SeqGlobal = 13
nf_log_attr_number Gid = 14
nf_log_attr_number Hwtype = 15
nf_log_attr_number Hwheader = 16
nf_log_attr_number Hwlen = 17
nf_log_attr_number Ct = 18
nf_log_attr_number CtInfo = 19
nf_log_attr_number (UnrecognizedConst n) = n

-- the variants, in their order
abbrev pub nf_log_attr_variants : List NfLogAttr
nf_log_attr_variants =
    PacketHdr ∷ Mark ∷ Timestamp ∷ IfindexIndev ∷ IfindexOutdev ∷ IfindexPhyindev ∷
    IfindexPhyoutdev ∷ Hwaddr ∷ Payload ∷ Prefix ∷ Uid ∷ Seq ∷ SeqGlobal ∷ Gid ∷ Hwtype ∷ Hwheader ∷
    Hwlen ∷ Ct ∷ CtInfo ∷ []

-- the first variant with a number, else the number without a name
abbrev pub nf_log_attr_of : ℕ → NfLogAttr
nf_log_attr_of = first_with nf_log_attr_number nf_log_attr_variants UnrecognizedConst

-- whether a value is a number without a name
abbrev pub nf_log_attr_is_unrecognized : NfLogAttr → Bool
nf_log_attr_is_unrecognized (UnrecognizedConst n) = true
nf_log_attr_is_unrecognized v = false
