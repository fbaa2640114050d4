-- The numbers of `CnMsgVal`.
use Rattle.std.specs.Prelude.{ℕ, Bool, true, false, List, [], ◌∷◌}
use Rattle.neli_wire.specs.Constants.{first_with}
use Rattle.neli_consts_system.specs.declared.connector.CnMsgVal.{CnMsgVal}
use Rattle.neli_consts_system.specs.declared.connector.CnMsgVal.TheVariants.{Proc, Cifs, W1, V86dUvesafb}
use Rattle.neli_consts_system.specs.declared.connector.CnMsgVal.TheVariants.{Dst, DmUserspaceLog, Drbd, Kvp}
use Rattle.neli_consts_system.specs.declared.connector.CnMsgVal.TheVariants.{Vss, UnrecognizedConst}

-- the number of each variant
abbrev pub cn_msg_val_number : CnMsgVal → ℕ
cn_msg_val_number Proc = 1
cn_msg_val_number Cifs = 1
cn_msg_val_number W1 = 1
cn_msg_val_number V86dUvesafb = 1
cn_msg_val_number Dst = 1
cn_msg_val_number DmUserspaceLog = 1
cn_msg_val_number Drbd = 1
cn_msg_val_number Kvp = 1
cn_msg_val_number Vss = 1
cn_msg_val_number (UnrecognizedConst n) = n

-- the variants, in their order
abbrev pub cn_msg_val_variants : List CnMsgVal
cn_msg_val_variants =
    Proc ∷ Cifs ∷ W1 ∷ V86dUvesafb ∷ Dst ∷ DmUserspaceLog ∷ Drbd ∷ Kvp ∷ Vss ∷ []

-- the first variant with a number, else the number without a name
abbrev pub cn_msg_val_of : ℕ → CnMsgVal
cn_msg_val_of = first_with cn_msg_val_number cn_msg_val_variants UnrecognizedConst

-- whether a value is a number without a name
abbrev pub cn_msg_val_is_unrecognized : CnMsgVal → Bool
cn_msg_val_is_unrecognized (UnrecognizedConst n) = true
cn_msg_val_is_unrecognized v = false
