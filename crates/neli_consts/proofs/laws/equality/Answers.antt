use Rattle.neli_wire.specs.laws.Equality.{derived-equality, equality}
use Rattle.std.proofs.lemmas.Bool.{eqb-true}
use Rattle.neli_consts.specs.contracts.nlmsg.Nlmsg.{enum as nlmsg}
use Rattle.neli_consts.specs.contracts.nlmsg.NlmsgEq.TheImpl.Laws.{laws-law as nlmsg-laws}
use Rattle.neli_consts.specs.contracts.nlmsg.NlmsgerrAttr.{enum as nlmsgerr_attr}
use Rattle.neli_consts.specs.contracts.nlmsg.NlmsgerrAttrEq.TheImpl.Laws.{laws-law as nlmsgerr_attr-laws}
use Rattle.neli_consts.specs.contracts.genl.GenlId.{enum as genl_id}
use Rattle.neli_consts.specs.contracts.genl.GenlIdEq.TheImpl.Laws.{laws-law as genl_id-laws}
use Rattle.neli_consts.specs.contracts.genl.CtrlCmd.{enum as ctrl_cmd}
use Rattle.neli_consts.specs.contracts.genl.CtrlCmdEq.TheImpl.Laws.{laws-law as ctrl_cmd-laws}
use Rattle.neli_consts.specs.contracts.genl.CtrlAttr.{enum as ctrl_attr}
use Rattle.neli_consts.specs.contracts.genl.CtrlAttrEq.TheImpl.Laws.{laws-law as ctrl_attr-laws}
use Rattle.neli_consts.specs.contracts.genl.CtrlAttrMcastGrp.{enum as ctrl_attr_mcast_grp}
use Rattle.neli_consts.specs.contracts.genl.CtrlAttrMcastGrpEq.TheImpl.Laws.{laws-law as ctrl_attr_mcast_grp-laws}
use Rattle.neli_consts.specs.contracts.index.IndexEq.TheImpl.Laws.{laws-law as index-laws}
use Rattle.neli_consts.specs.contracts.nlm_f.NlmFEq.TheImpl.Laws.{laws-law as nlm_f-laws}
use Rattle.neli_consts.specs.contracts.nl_type.NlTypeWrapper.{enum as nl_type_wrapper}
use Rattle.neli_consts.specs.contracts.nl_type.NlTypeWrapperEq.TheImpl.Laws.{laws-law as nl_type_wrapper-laws}
use Rattle.neli_consts.specs.contracts.nl_attr_type.NlAttrTypeWrapper.{enum as nl_attr_type_wrapper}
use Rattle.neli_consts.specs.contracts.nl_attr_type.NlAttrTypeWrapperEq.TheImpl.Laws.{laws-law as nl_attr_type_wrapper-laws}
use Rattle.neli_consts.specs.contracts.commands.LogCfgCmdWrapper.{enum as log_cfg_cmd_wrapper}
use Rattle.neli_consts.specs.contracts.commands.LogCfgCmdWrapperEq.TheImpl.Laws.{laws-law as log_cfg_cmd_wrapper-laws}
use Rattle.neli_consts.proofs.laws.equality.Goals as goal
use Rattle.neli_consts_routing.specs.contracts.messages.Rtm.{enum as rtm}
use Rattle.neli_consts_routing.specs.contracts.messages.RtmEq.TheImpl.Laws.{laws-law as rtm-laws}
use Rattle.neli_consts_system.specs.contracts.netfilter.NetfilterMsg.{enum as netfilter_msg}
use Rattle.neli_consts_system.specs.contracts.netfilter.NetfilterMsgEq.TheImpl.Laws.{laws-law as netfilter_msg-laws}
use Rattle.neli_consts_system.specs.contracts.netfilter.NfLogAttr.{enum as nf_log_attr}
use Rattle.neli_consts_system.specs.contracts.netfilter.NfLogAttrEq.TheImpl.Laws.{laws-law as nf_log_attr-laws}
use Rattle.neli_consts_system.specs.contracts.netfilter.NfLogCfg.{enum as nf_log_cfg}
use Rattle.neli_consts_system.specs.contracts.netfilter.NfLogCfgEq.TheImpl.Laws.{laws-law as nf_log_cfg-laws}
use Rattle.neli_consts_system.specs.contracts.netfilter.LogCmd.{enum as log_cmd}
use Rattle.neli_consts_system.specs.contracts.netfilter.LogCmdEq.TheImpl.Laws.{laws-law as log_cmd-laws}
use Rattle.neli_wire.specs.Constants.{IsEquality}
use Rattle.neli_consts_routing.specs.contracts.messages.RtmPartialEq.TheImpl.{ghosts as rtm-ghosts}
use Rattle.neli_consts_system.specs.contracts.netfilter.NetfilterMsgPartialEq.TheImpl.{ghosts as netfilter_msg-ghosts}
use Rattle.neli_consts_system.specs.contracts.netfilter.NfLogAttrPartialEq.TheImpl.{ghosts as nf_log_attr-ghosts}
use Rattle.neli_consts_system.specs.contracts.netfilter.NfLogCfgPartialEq.TheImpl.{ghosts as nf_log_cfg-ghosts}
use Rattle.neli_consts_system.specs.contracts.netfilter.LogCmdPartialEq.TheImpl.{ghosts as log_cmd-ghosts}

-- the tables of the crates below
rtm-equality : IsEquality rtm-ghosts.eq
rtm-equality = derived-equality rtm _ rtm-laws (λ x y e i. (eqb-true x.0 y.0 e i, tt), tt)

netfilter_msg-equality : IsEquality netfilter_msg-ghosts.eq
netfilter_msg-equality = derived-equality netfilter_msg _ netfilter_msg-laws (λ x y e i. (eqb-true x.0 y.0 e i, tt), tt)

nf_log_attr-equality : IsEquality nf_log_attr-ghosts.eq
nf_log_attr-equality = derived-equality nf_log_attr _ nf_log_attr-laws (λ x y e i. (eqb-true x.0 y.0 e i, tt), tt)

nf_log_cfg-equality : IsEquality nf_log_cfg-ghosts.eq
nf_log_cfg-equality = derived-equality nf_log_cfg _ nf_log_cfg-laws (λ x y e i. (eqb-true x.0 y.0 e i, tt), tt)

log_cmd-equality : IsEquality log_cmd-ghosts.eq
log_cmd-equality = derived-equality log_cmd _ log_cmd-laws (λ x y e i. (eqb-true x.0 y.0 e i, tt), tt)

pub returns-clause-nlmsg : goal.returns-clause-nlmsg
returns-clause-nlmsg c = derived-equality nlmsg _ nlmsg-laws (λ x y e i. (eqb-true x.0 y.0 e i, tt), tt)

pub returns-clause-nlmsgerr_attr : goal.returns-clause-nlmsgerr_attr
returns-clause-nlmsgerr_attr c = derived-equality nlmsgerr_attr _ nlmsgerr_attr-laws
    (λ x y e i. (eqb-true x.0 y.0 e i, tt), tt)

pub returns-clause-genl_id : goal.returns-clause-genl_id
returns-clause-genl_id c = derived-equality genl_id _ genl_id-laws (λ x y e i. (eqb-true x.0 y.0 e i, tt), tt)

pub returns-clause-ctrl_cmd : goal.returns-clause-ctrl_cmd
returns-clause-ctrl_cmd c = derived-equality ctrl_cmd _ ctrl_cmd-laws (λ x y e i. (eqb-true x.0 y.0 e i, tt), tt)

pub returns-clause-ctrl_attr : goal.returns-clause-ctrl_attr
returns-clause-ctrl_attr c = derived-equality ctrl_attr _ ctrl_attr-laws (λ x y e i. (eqb-true x.0 y.0 e i, tt), tt)

pub returns-clause-ctrl_attr_mcast_grp : goal.returns-clause-ctrl_attr_mcast_grp
returns-clause-ctrl_attr_mcast_grp c = derived-equality ctrl_attr_mcast_grp _ ctrl_attr_mcast_grp-laws
    (λ x y e i. (eqb-true x.0 y.0 e i, tt), tt)

pub returns-clause-index : goal.returns-clause-index
returns-clause-index c = equality index-laws (λ a b e i. record { 0 = eqb-true a.0 b.0 e i })

pub returns-clause-nlm_f : goal.returns-clause-nlm_f
returns-clause-nlm_f c = equality nlm_f-laws (λ a b e i. record { 0 = eqb-true a.0 b.0 e i })

pub returns-clause-nl_type_wrapper : goal.returns-clause-nl_type_wrapper
returns-clause-nl_type_wrapper c =
    derived-equality nl_type_wrapper _ nl_type_wrapper-laws (
      λ x y e i. ((returns-clause-nlmsg c x.0 y.0).0 e i, tt),
      (
        λ x y e i. ((returns-clause-genl_id c x.0 y.0).0 e i, tt),
        (
          λ x y e i. ((rtm-equality x.0 y.0).0 e i, tt),
          (
            λ x y e i. ((netfilter_msg-equality x.0 y.0).0 e i, tt),
            (λ x y e i. (eqb-true x.0 y.0 e i, tt), tt),
          ),
        ),
      ),
    )

pub returns-clause-nl_attr_type_wrapper : goal.returns-clause-nl_attr_type_wrapper
returns-clause-nl_attr_type_wrapper c =
    derived-equality nl_attr_type_wrapper _ nl_attr_type_wrapper-laws (
      λ x y e i. ((returns-clause-ctrl_attr c x.0 y.0).0 e i, tt),
      (
        λ x y e i. ((returns-clause-ctrl_attr_mcast_grp c x.0 y.0).0 e i, tt),
        (
          λ x y e i. ((nf_log_attr-equality x.0 y.0).0 e i, tt),
          (
            λ x y e i. ((nf_log_cfg-equality x.0 y.0).0 e i, tt),
            (
              λ x y e i. ((returns-clause-index c x.0 y.0).0 e i, tt),
              (
                λ x y e i. ((returns-clause-nlmsgerr_attr c x.0 y.0).0 e i, tt),
                (λ x y e i. (eqb-true x.0 y.0 e i, tt), tt),
              ),
            ),
          ),
        ),
      ),
    )

pub returns-clause-log_cfg_cmd_wrapper : goal.returns-clause-log_cfg_cmd_wrapper
returns-clause-log_cfg_cmd_wrapper c =
    derived-equality log_cfg_cmd_wrapper _ log_cfg_cmd_wrapper-laws (
      λ x y e i. ((log_cmd-equality x.0 y.0).0 e i, tt),
      (λ x y e i. (eqb-true x.0 y.0 e i, tt), tt),
    )
