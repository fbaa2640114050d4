use Rattle.neli_wire.specs.laws.Equality.{derived-equality, equality}
use Rattle.std.proofs.lemmas.Bool.Decides.{Decides-int_eq}
use Rattle.std.proofs.lemmas.Bool.{eqb-true}
use Rattle.neli_consts_system.specs.contracts.connector.CnMsgIdx.{enum as cn_msg_idx}
use Rattle.neli_consts_system.specs.contracts.connector.CnMsgIdxEq.TheImpl.Laws.{laws-law as cn_msg_idx-laws}
use Rattle.neli_consts_system.specs.contracts.connector.CnMsgVal.{enum as cn_msg_val}
use Rattle.neli_consts_system.specs.contracts.connector.CnMsgValEq.TheImpl.Laws.{laws-law as cn_msg_val-laws}
use Rattle.neli_consts_system.specs.contracts.connector.ProcEventType.{enum as proc_event_type}
use Rattle.neli_consts_system.specs.contracts.connector.ProcEventTypeEq.TheImpl.Laws.{laws-law as proc_event_type-laws}
use Rattle.neli_consts_system.specs.contracts.connector.ProcCnMcastOp.{enum as proc_cn_mcast_op}
use Rattle.neli_consts_system.specs.contracts.connector.ProcCnMcastOpEq.TheImpl.Laws.{laws-law as proc_cn_mcast_op-laws}
use Rattle.neli_consts_system.specs.contracts.netfilter.NfLogAttr.{enum as nf_log_attr}
use Rattle.neli_consts_system.specs.contracts.netfilter.NfLogAttrEq.TheImpl.Laws.{laws-law as nf_log_attr-laws}
use Rattle.neli_consts_system.specs.contracts.netfilter.NfLogCfg.{enum as nf_log_cfg}
use Rattle.neli_consts_system.specs.contracts.netfilter.NfLogCfgEq.TheImpl.Laws.{laws-law as nf_log_cfg-laws}
use Rattle.neli_consts_system.specs.contracts.netfilter.NetfilterMsg.{enum as netfilter_msg}
use Rattle.neli_consts_system.specs.contracts.netfilter.NetfilterMsgEq.TheImpl.Laws.{laws-law as netfilter_msg-laws}
use Rattle.neli_consts_system.specs.contracts.netfilter.LogCmd.{enum as log_cmd}
use Rattle.neli_consts_system.specs.contracts.netfilter.LogCmdEq.TheImpl.Laws.{laws-law as log_cmd-laws}
use Rattle.neli_consts_system.specs.contracts.netfilter.LogCopyMode.{enum as log_copy_mode}
use Rattle.neli_consts_system.specs.contracts.netfilter.LogCopyModeEq.TheImpl.Laws.{laws-law as log_copy_mode-laws}
use Rattle.neli_consts_system.specs.contracts.socket.AddrFamily.{enum as addr_family}
use Rattle.neli_consts_system.specs.contracts.socket.AddrFamilyEq.TheImpl.Laws.{laws-law as addr_family-laws}
use Rattle.neli_consts_system.specs.contracts.socket.NlFamily.{enum as nl_family}
use Rattle.neli_consts_system.specs.contracts.socket.NlFamilyEq.TheImpl.Laws.{laws-law as nl_family-laws}
use Rattle.neli_consts_system.specs.contracts.msg.MsgEq.TheImpl.Laws.{laws-law as msg-laws}
use Rattle.neli_consts_system.proofs.laws.equality.Goals as goal

pub returns-clause-cn_msg_idx : goal.returns-clause-cn_msg_idx
returns-clause-cn_msg_idx c = derived-equality cn_msg_idx _ cn_msg_idx-laws (λ x y e i. (eqb-true x.0 y.0 e i, tt), tt)

pub returns-clause-cn_msg_val : goal.returns-clause-cn_msg_val
returns-clause-cn_msg_val c = derived-equality cn_msg_val _ cn_msg_val-laws (λ x y e i. (eqb-true x.0 y.0 e i, tt), tt)

pub returns-clause-proc_event_type : goal.returns-clause-proc_event_type
returns-clause-proc_event_type c = derived-equality proc_event_type _ proc_event_type-laws
    (λ x y e i. (eqb-true x.0 y.0 e i, tt), tt)

pub returns-clause-proc_cn_mcast_op : goal.returns-clause-proc_cn_mcast_op
returns-clause-proc_cn_mcast_op c = derived-equality proc_cn_mcast_op _ proc_cn_mcast_op-laws
    (λ x y e i. (eqb-true x.0 y.0 e i, tt), tt)

pub returns-clause-nf_log_attr : goal.returns-clause-nf_log_attr
returns-clause-nf_log_attr c = derived-equality nf_log_attr _ nf_log_attr-laws (
  λ x y e i. (eqb-true x.0 y.0 e i, tt),
  tt,
)

pub returns-clause-nf_log_cfg : goal.returns-clause-nf_log_cfg
returns-clause-nf_log_cfg c = derived-equality nf_log_cfg _ nf_log_cfg-laws (λ x y e i. (eqb-true x.0 y.0 e i, tt), tt)

pub returns-clause-netfilter_msg : goal.returns-clause-netfilter_msg
returns-clause-netfilter_msg c = derived-equality netfilter_msg _ netfilter_msg-laws
    (λ x y e i. (eqb-true x.0 y.0 e i, tt), tt)

pub returns-clause-log_cmd : goal.returns-clause-log_cmd
returns-clause-log_cmd c = derived-equality log_cmd _ log_cmd-laws (λ x y e i. (eqb-true x.0 y.0 e i, tt), tt)

pub returns-clause-log_copy_mode : goal.returns-clause-log_copy_mode
returns-clause-log_copy_mode c = derived-equality log_copy_mode _ log_copy_mode-laws
    (λ x y e i. (eqb-true x.0 y.0 e i, tt), tt)

pub returns-clause-addr_family : goal.returns-clause-addr_family
returns-clause-addr_family c = derived-equality addr_family _ addr_family-laws
    (λ x y e i. ((Decides-int_eq x.0 y.0).0 e i, tt), tt)

pub returns-clause-nl_family : goal.returns-clause-nl_family
returns-clause-nl_family c = derived-equality nl_family _ nl_family-laws
    (λ x y e i. ((Decides-int_eq x.0 y.0).0 e i, tt), tt)

pub returns-clause-msg : goal.returns-clause-msg
returns-clause-msg c = equality msg-laws (λ a b e i. record { 0 = eqb-true a.0 b.0 e i })
