-- The meaning of a message's type number: the first table that has a name for it.
use Rattle.std.specs.Prelude.{ℕ, Bool, List, [], ◌∷◌}
use Rattle.neli_wire.specs.Constants.{reading, first_recognized}
use Rattle.neli_consts.specs.Nlmsg.{nlmsg_number, nlmsg_of, nlmsg_is_unrecognized}
use Rattle.neli_consts.specs.GenlId.{genl_id_number, genl_id_of, genl_id_is_unrecognized}
use Rattle.neli_consts_routing.specs.Rtm.{rtm_number, rtm_of, rtm_is_unrecognized}
use Rattle.neli_consts_system.specs.NetfilterMsg.{netfilter_msg_number, netfilter_msg_of, netfilter_msg_is_unrecognized}
use Rattle.neli_consts.specs.declared.nl_type.NlTypeWrapper.{NlTypeWrapper}
use Rattle.neli_consts.specs.declared.nl_type.NlTypeWrapper.TheVariants.{Nlmsg, GenlId, Rtm}
use Rattle.neli_consts.specs.declared.nl_type.NlTypeWrapper.TheVariants.{NetfilterMsg, UnrecognizedConst}

-- the number of each value
abbrev pub nl_type_wrapper_number : NlTypeWrapper → ℕ
nl_type_wrapper_number (Nlmsg v) = nlmsg_number v
nl_type_wrapper_number (GenlId v) = genl_id_number v
nl_type_wrapper_number (Rtm v) = rtm_number v
nl_type_wrapper_number (NetfilterMsg v) = netfilter_msg_number v
nl_type_wrapper_number (UnrecognizedConst n) = n

-- each table's value for a number, in the order of the tables
abbrev pub nl_type_wrapper_readings : ℕ → List (Bool × NlTypeWrapper)
nl_type_wrapper_readings n =
    reading nlmsg_is_unrecognized Nlmsg (nlmsg_of n)
    ∷ reading genl_id_is_unrecognized GenlId (genl_id_of n)
    ∷ reading rtm_is_unrecognized Rtm (rtm_of n)
    ∷ reading netfilter_msg_is_unrecognized NetfilterMsg (netfilter_msg_of n)
    ∷ []

-- the value from the first table that has a name for a number, else the number without a name
abbrev pub nl_type_wrapper_of : ℕ → NlTypeWrapper
nl_type_wrapper_of n = first_recognized (nl_type_wrapper_readings n) (UnrecognizedConst n)
