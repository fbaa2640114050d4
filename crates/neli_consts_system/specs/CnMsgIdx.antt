-- The numbers of `CnMsgIdx`.
use Rattle.std.specs.Prelude.{ℕ, Bool, true, false, List, [], ◌∷◌}
use Rattle.neli_wire.specs.Constants.{first_with}
use Rattle.neli_consts_system.specs.declared.connector.CnMsgIdx.{CnMsgIdx}
use Rattle.neli_consts_system.specs.declared.connector.CnMsgIdx.TheVariants.{Proc, Cifs, W1, V86d, Bb, Dst}
use Rattle.neli_consts_system.specs.declared.connector.CnMsgIdx.TheVariants.{Dm, Drbd, Kvp, Vss, UnrecognizedConst}

-- the number of each variant
abbrev pub cn_msg_idx_number : CnMsgIdx → ℕ
cn_msg_idx_number Proc = 1
cn_msg_idx_number Cifs = 2
cn_msg_idx_number W1 = 3
cn_msg_idx_number V86d = 4
cn_msg_idx_number Bb = 5
cn_msg_idx_number Dst = 6
cn_msg_idx_number Dm = 7
cn_msg_idx_number Drbd = 8
cn_msg_idx_number Kvp = 9
cn_msg_idx_number Vss = 10
cn_msg_idx_number (UnrecognizedConst n) = n

-- the variants, in their order
abbrev pub cn_msg_idx_variants : List CnMsgIdx
cn_msg_idx_variants =
    Proc ∷ Cifs ∷ W1 ∷ V86d ∷ Bb ∷ Dst ∷ Dm ∷ Drbd ∷ Kvp ∷ Vss ∷ []

-- the first variant with a number, else the number without a name
abbrev pub cn_msg_idx_of : ℕ → CnMsgIdx
cn_msg_idx_of = first_with cn_msg_idx_number cn_msg_idx_variants UnrecognizedConst

-- whether a value is a number without a name
abbrev pub cn_msg_idx_is_unrecognized : CnMsgIdx → Bool
cn_msg_idx_is_unrecognized (UnrecognizedConst n) = true
cn_msg_idx_is_unrecognized v = false
