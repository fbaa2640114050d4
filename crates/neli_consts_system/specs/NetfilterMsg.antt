-- The numbers of `NetfilterMsg`.
use Rattle.std.specs.Prelude.{ℕ, Bool, true, false, List, [], ◌∷◌}
use Rattle.neli_wire.specs.Constants.{first_with}
use Rattle.neli_consts_system.specs.declared.netfilter.NetfilterMsg.{NetfilterMsg}
use Rattle.neli_consts_system.specs.declared.netfilter.NetfilterMsg.TheVariants.{LogPacket, LogConfig}
use Rattle.neli_consts_system.specs.declared.netfilter.NetfilterMsg.TheVariants.{UnrecognizedConst}

-- the number of each variant
abbrev pub netfilter_msg_number : NetfilterMsg → ℕ
netfilter_msg_number LogPacket = 1024
netfilter_msg_number LogConfig = 1025
netfilter_msg_number (UnrecognizedConst n) = n

-- the variants, in their order
abbrev pub netfilter_msg_variants : List NetfilterMsg
netfilter_msg_variants =
    LogPacket ∷ LogConfig ∷ []

-- the first variant with a number, else the number without a name
abbrev pub netfilter_msg_of : ℕ → NetfilterMsg
netfilter_msg_of = first_with netfilter_msg_number netfilter_msg_variants UnrecognizedConst

-- whether a value is a number without a name
abbrev pub netfilter_msg_is_unrecognized : NetfilterMsg → Bool
netfilter_msg_is_unrecognized (UnrecognizedConst n) = true
netfilter_msg_is_unrecognized v = false
