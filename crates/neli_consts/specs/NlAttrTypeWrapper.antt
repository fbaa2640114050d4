-- The meaning of an attribute's number: the first table that has a name for it.
use Rattle.std.specs.Prelude.{ℕ, Bool, List, [], ◌∷◌}
use Rattle.neli_wire.specs.Constants.{reading, first_recognized}
use Rattle.neli_consts.specs.CtrlAttr.{ctrl_attr_number, ctrl_attr_of, ctrl_attr_is_unrecognized}
use Rattle.neli_consts.specs.CtrlAttrMcastGrp.{ctrl_attr_mcast_grp_number, ctrl_attr_mcast_grp_of}
use Rattle.neli_consts.specs.CtrlAttrMcastGrp.{ctrl_attr_mcast_grp_is_unrecognized}
use Rattle.neli_consts_system.specs.NfLogAttr.{nf_log_attr_number, nf_log_attr_of, nf_log_attr_is_unrecognized}
use Rattle.neli_consts_system.specs.NfLogCfg.{nf_log_cfg_number, nf_log_cfg_of, nf_log_cfg_is_unrecognized}
use Rattle.neli_consts.specs.Index.{index_number, index_of, index_is_unrecognized}
use Rattle.neli_consts.specs.NlmsgerrAttr.{nlmsgerr_attr_number, nlmsgerr_attr_of, nlmsgerr_attr_is_unrecognized}
use Rattle.neli_consts.specs.declared.nl_attr_type.NlAttrTypeWrapper.{NlAttrTypeWrapper}
use Rattle.neli_consts.specs.declared.nl_attr_type.NlAttrTypeWrapper.TheVariants.{CtrlAttr, CtrlAttrMcastGrp, NfLogAttr}
use Rattle.neli_consts.specs.declared.nl_attr_type.NlAttrTypeWrapper.TheVariants.{NfLogCfg, Index, NlmsgerrAttr}
use Rattle.neli_consts.specs.declared.nl_attr_type.NlAttrTypeWrapper.TheVariants.{UnrecognizedConst}

-- the number of each value
abbrev pub nl_attr_type_wrapper_number : NlAttrTypeWrapper → ℕ
nl_attr_type_wrapper_number (CtrlAttr v) = ctrl_attr_number v
nl_attr_type_wrapper_number (CtrlAttrMcastGrp v) = ctrl_attr_mcast_grp_number v
nl_attr_type_wrapper_number (NfLogAttr v) = nf_log_attr_number v
nl_attr_type_wrapper_number (NfLogCfg v) = nf_log_cfg_number v
nl_attr_type_wrapper_number (Index v) = index_number v
nl_attr_type_wrapper_number (NlmsgerrAttr v) = nlmsgerr_attr_number v
nl_attr_type_wrapper_number (UnrecognizedConst n) = n

-- each table's value for a number, in the order of the tables
abbrev pub nl_attr_type_wrapper_readings : ℕ → List (Bool × NlAttrTypeWrapper)
nl_attr_type_wrapper_readings n =
    reading ctrl_attr_is_unrecognized CtrlAttr (ctrl_attr_of n)
    ∷ reading ctrl_attr_mcast_grp_is_unrecognized CtrlAttrMcastGrp (ctrl_attr_mcast_grp_of n)
    ∷ reading nf_log_attr_is_unrecognized NfLogAttr (nf_log_attr_of n)
    ∷ reading nf_log_cfg_is_unrecognized NfLogCfg (nf_log_cfg_of n)
    ∷ reading index_is_unrecognized Index (index_of n)
    ∷ reading nlmsgerr_attr_is_unrecognized NlmsgerrAttr (nlmsgerr_attr_of n)
    ∷ []

-- the value from the first table that has a name for a number, else the number without a name
abbrev pub nl_attr_type_wrapper_of : ℕ → NlAttrTypeWrapper
nl_attr_type_wrapper_of n = first_recognized (nl_attr_type_wrapper_readings n) (UnrecognizedConst n)
