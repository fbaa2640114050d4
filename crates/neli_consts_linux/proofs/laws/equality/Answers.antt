use Rattle.neli_wire.specs.laws.Equality.{derived-equality}
use Rattle.std.proofs.lemmas.Bool.{eqb-true}
use Rattle.neli_consts_linux.specs.contracts.groups.Rtnlgrp.{enum as rtnlgrp}
use Rattle.neli_consts_linux.specs.contracts.groups.RtnlgrpEq.TheImpl.Laws.{laws-law as rtnlgrp-laws}
use Rattle.neli_consts_linux.specs.contracts.metrics.Rtax.{enum as rtax}
use Rattle.neli_consts_linux.specs.contracts.metrics.RtaxEq.TheImpl.Laws.{laws-law as rtax-laws}
use Rattle.neli_consts_linux.specs.contracts.next_hops.Nha.{enum as nha}
use Rattle.neli_consts_linux.specs.contracts.next_hops.NhaEq.TheImpl.Laws.{laws-law as nha-laws}
use Rattle.neli_consts_linux.specs.contracts.next_hops.NhaResGroup.{enum as nha_res_group}
use Rattle.neli_consts_linux.specs.contracts.next_hops.NhaResGroupEq.TheImpl.Laws.{laws-law as nha_res_group-laws}
use Rattle.neli_consts_linux.specs.contracts.next_hops.NhaResBucket.{enum as nha_res_bucket}
use Rattle.neli_consts_linux.specs.contracts.next_hops.NhaResBucketEq.TheImpl.Laws.{laws-law as nha_res_bucket-laws}
use Rattle.neli_consts_linux.specs.contracts.next_hops.NhaGroupStats.{enum as nha_group_stats}
use Rattle.neli_consts_linux.specs.contracts.next_hops.NhaGroupStatsEq.TheImpl.Laws.{laws-law as nha_group_stats-laws}
use Rattle.neli_consts_linux.specs.contracts.next_hops.NhaGroupStatsEntry.{enum as nha_group_stats_entry}
use Rattle.neli_consts_linux.specs.contracts.next_hops.NhaGroupStatsEntryEq.TheImpl.Laws.{laws-law as nha_group_stats_entry-laws}
use Rattle.neli_consts_linux.specs.contracts.next_hops.NexthopGrpType.{enum as nexthop_grp_type}
use Rattle.neli_consts_linux.specs.contracts.next_hops.NexthopGrpTypeEq.TheImpl.Laws.{laws-law as nexthop_grp_type-laws}
use Rattle.neli_consts_linux.specs.contracts.bridges.IflaBr.{enum as ifla_br}
use Rattle.neli_consts_linux.specs.contracts.bridges.IflaBrEq.TheImpl.Laws.{laws-law as ifla_br-laws}
use Rattle.neli_consts_linux.specs.contracts.bridges.IflaBrport.{enum as ifla_brport}
use Rattle.neli_consts_linux.specs.contracts.bridges.IflaBrportEq.TheImpl.Laws.{laws-law as ifla_brport-laws}
use Rattle.neli_consts_linux.specs.contracts.macvlans.IflaMacvlan.{enum as ifla_macvlan}
use Rattle.neli_consts_linux.specs.contracts.macvlans.IflaMacvlanEq.TheImpl.Laws.{laws-law as ifla_macvlan-laws}
use Rattle.neli_consts_linux.specs.contracts.vxlans.IflaVxlan.{enum as ifla_vxlan}
use Rattle.neli_consts_linux.specs.contracts.vxlans.IflaVxlanEq.TheImpl.Laws.{laws-law as ifla_vxlan-laws}
use Rattle.neli_consts_linux.specs.contracts.virtual_functions.IflaVf.{enum as ifla_vf}
use Rattle.neli_consts_linux.specs.contracts.virtual_functions.IflaVfEq.TheImpl.Laws.{laws-law as ifla_vf-laws}
use Rattle.neli_consts_linux.specs.contracts.bonds.IflaBond.{enum as ifla_bond}
use Rattle.neli_consts_linux.specs.contracts.bonds.IflaBondEq.TheImpl.Laws.{laws-law as ifla_bond-laws}
use Rattle.neli_consts_linux.specs.contracts.bonds.IflaBondAdInfo.{enum as ifla_bond_ad_info}
use Rattle.neli_consts_linux.specs.contracts.bonds.IflaBondAdInfoEq.TheImpl.Laws.{laws-law as ifla_bond_ad_info-laws}
use Rattle.neli_consts_linux.specs.contracts.bonds.IflaBondSlave.{enum as ifla_bond_slave}
use Rattle.neli_consts_linux.specs.contracts.bonds.IflaBondSlaveEq.TheImpl.Laws.{laws-law as ifla_bond_slave-laws}
use Rattle.neli_consts_linux.specs.contracts.controller.CtrlCmd.{enum as ctrl_cmd}
use Rattle.neli_consts_linux.specs.contracts.controller.CtrlCmdEq.TheImpl.Laws.{laws-law as ctrl_cmd-laws}
use Rattle.neli_consts_linux.specs.contracts.controller.CtrlAttr.{enum as ctrl_attr}
use Rattle.neli_consts_linux.specs.contracts.controller.CtrlAttrEq.TheImpl.Laws.{laws-law as ctrl_attr-laws}
use Rattle.neli_consts_linux.specs.contracts.controller.CtrlAttrOp.{enum as ctrl_attr_op}
use Rattle.neli_consts_linux.specs.contracts.controller.CtrlAttrOpEq.TheImpl.Laws.{laws-law as ctrl_attr_op-laws}
use Rattle.neli_consts_linux.specs.contracts.controller.CtrlAttrPolicy.{enum as ctrl_attr_policy}
use Rattle.neli_consts_linux.specs.contracts.controller.CtrlAttrPolicyEq.TheImpl.Laws.{laws-law as ctrl_attr_policy-laws}
use Rattle.neli_consts_linux.specs.contracts.policies.NlPolicyTypeAttr.{enum as nl_policy_type_attr}
use Rattle.neli_consts_linux.specs.contracts.policies.NlPolicyTypeAttrEq.TheImpl.Laws.{laws-law as nl_policy_type_attr-laws}
use Rattle.neli_consts_linux.specs.contracts.policies.NetlinkAttributeType.{enum as netlink_attribute_type}
use Rattle.neli_consts_linux.specs.contracts.policies.NetlinkAttributeTypeEq.TheImpl.Laws.{laws-law as netlink_attribute_type-laws}
use Rattle.neli_consts_linux.specs.contracts.statistics.IflaStats.{enum as ifla_stats}
use Rattle.neli_consts_linux.specs.contracts.statistics.IflaStatsEq.TheImpl.Laws.{laws-law as ifla_stats-laws}
use Rattle.neli_consts_linux.specs.contracts.statistics.TcaStats.{enum as tca_stats}
use Rattle.neli_consts_linux.specs.contracts.statistics.TcaStatsEq.TheImpl.Laws.{laws-law as tca_stats-laws}
use Rattle.neli_consts_linux.specs.contracts.multicast.Mdba.{enum as mdba}
use Rattle.neli_consts_linux.specs.contracts.multicast.MdbaEq.TheImpl.Laws.{laws-law as mdba-laws}
use Rattle.neli_consts_linux.specs.contracts.neighbours.Ndta.{enum as ndta}
use Rattle.neli_consts_linux.specs.contracts.neighbours.NdtaEq.TheImpl.Laws.{laws-law as ndta-laws}
use Rattle.neli_consts_linux.proofs.laws.equality.Goals as goal

pub returns-clause-rtnlgrp : goal.returns-clause-rtnlgrp
returns-clause-rtnlgrp c = derived-equality rtnlgrp _ rtnlgrp-laws (λ x y e i. (eqb-true x.0 y.0 e i, tt), tt)

pub returns-clause-rtax : goal.returns-clause-rtax
returns-clause-rtax c = derived-equality rtax _ rtax-laws (λ x y e i. (eqb-true x.0 y.0 e i, tt), tt)

pub returns-clause-nha : goal.returns-clause-nha
returns-clause-nha c = derived-equality nha _ nha-laws (λ x y e i. (eqb-true x.0 y.0 e i, tt), tt)

pub returns-clause-nha_res_group : goal.returns-clause-nha_res_group
returns-clause-nha_res_group c = derived-equality nha_res_group _ nha_res_group-laws
    (λ x y e i. (eqb-true x.0 y.0 e i, tt), tt)

pub returns-clause-nha_res_bucket : goal.returns-clause-nha_res_bucket
returns-clause-nha_res_bucket c = derived-equality nha_res_bucket _ nha_res_bucket-laws
    (λ x y e i. (eqb-true x.0 y.0 e i, tt), tt)

pub returns-clause-nha_group_stats : goal.returns-clause-nha_group_stats
returns-clause-nha_group_stats c = derived-equality nha_group_stats _ nha_group_stats-laws
    (λ x y e i. (eqb-true x.0 y.0 e i, tt), tt)

pub returns-clause-nha_group_stats_entry : goal.returns-clause-nha_group_stats_entry
returns-clause-nha_group_stats_entry c = derived-equality nha_group_stats_entry _ nha_group_stats_entry-laws
    (λ x y e i. (eqb-true x.0 y.0 e i, tt), tt)

pub returns-clause-nexthop_grp_type : goal.returns-clause-nexthop_grp_type
returns-clause-nexthop_grp_type c = derived-equality nexthop_grp_type _ nexthop_grp_type-laws
    (λ x y e i. (eqb-true x.0 y.0 e i, tt), tt)

pub returns-clause-ifla_br : goal.returns-clause-ifla_br
returns-clause-ifla_br c = derived-equality ifla_br _ ifla_br-laws (λ x y e i. (eqb-true x.0 y.0 e i, tt), tt)

pub returns-clause-ifla_brport : goal.returns-clause-ifla_brport
returns-clause-ifla_brport c = derived-equality ifla_brport _ ifla_brport-laws
    (λ x y e i. (eqb-true x.0 y.0 e i, tt), tt)

pub returns-clause-ifla_macvlan : goal.returns-clause-ifla_macvlan
returns-clause-ifla_macvlan c = derived-equality ifla_macvlan _ ifla_macvlan-laws
    (λ x y e i. (eqb-true x.0 y.0 e i, tt), tt)

pub returns-clause-ifla_vxlan : goal.returns-clause-ifla_vxlan
returns-clause-ifla_vxlan c = derived-equality ifla_vxlan _ ifla_vxlan-laws (λ x y e i. (eqb-true x.0 y.0 e i, tt), tt)

pub returns-clause-ifla_vf : goal.returns-clause-ifla_vf
returns-clause-ifla_vf c = derived-equality ifla_vf _ ifla_vf-laws (λ x y e i. (eqb-true x.0 y.0 e i, tt), tt)

pub returns-clause-ifla_bond : goal.returns-clause-ifla_bond
returns-clause-ifla_bond c = derived-equality ifla_bond _ ifla_bond-laws (λ x y e i. (eqb-true x.0 y.0 e i, tt), tt)

pub returns-clause-ifla_bond_ad_info : goal.returns-clause-ifla_bond_ad_info
returns-clause-ifla_bond_ad_info c = derived-equality ifla_bond_ad_info _ ifla_bond_ad_info-laws
    (λ x y e i. (eqb-true x.0 y.0 e i, tt), tt)

pub returns-clause-ifla_bond_slave : goal.returns-clause-ifla_bond_slave
returns-clause-ifla_bond_slave c = derived-equality ifla_bond_slave _ ifla_bond_slave-laws
    (λ x y e i. (eqb-true x.0 y.0 e i, tt), tt)

pub returns-clause-ctrl_cmd : goal.returns-clause-ctrl_cmd
returns-clause-ctrl_cmd c = derived-equality ctrl_cmd _ ctrl_cmd-laws (λ x y e i. (eqb-true x.0 y.0 e i, tt), tt)

pub returns-clause-ctrl_attr : goal.returns-clause-ctrl_attr
returns-clause-ctrl_attr c = derived-equality ctrl_attr _ ctrl_attr-laws (λ x y e i. (eqb-true x.0 y.0 e i, tt), tt)

pub returns-clause-ctrl_attr_op : goal.returns-clause-ctrl_attr_op
returns-clause-ctrl_attr_op c = derived-equality ctrl_attr_op _ ctrl_attr_op-laws
    (λ x y e i. (eqb-true x.0 y.0 e i, tt), tt)

pub returns-clause-ctrl_attr_policy : goal.returns-clause-ctrl_attr_policy
returns-clause-ctrl_attr_policy c = derived-equality ctrl_attr_policy _ ctrl_attr_policy-laws
    (λ x y e i. (eqb-true x.0 y.0 e i, tt), tt)

pub returns-clause-nl_policy_type_attr : goal.returns-clause-nl_policy_type_attr
returns-clause-nl_policy_type_attr c = derived-equality nl_policy_type_attr _ nl_policy_type_attr-laws
    (λ x y e i. (eqb-true x.0 y.0 e i, tt), tt)

pub returns-clause-netlink_attribute_type : goal.returns-clause-netlink_attribute_type
returns-clause-netlink_attribute_type c = derived-equality netlink_attribute_type _ netlink_attribute_type-laws
    (λ x y e i. (eqb-true x.0 y.0 e i, tt), tt)

pub returns-clause-ifla_stats : goal.returns-clause-ifla_stats
returns-clause-ifla_stats c = derived-equality ifla_stats _ ifla_stats-laws (λ x y e i. (eqb-true x.0 y.0 e i, tt), tt)

pub returns-clause-tca_stats : goal.returns-clause-tca_stats
returns-clause-tca_stats c = derived-equality tca_stats _ tca_stats-laws (λ x y e i. (eqb-true x.0 y.0 e i, tt), tt)

pub returns-clause-mdba : goal.returns-clause-mdba
returns-clause-mdba c = derived-equality mdba _ mdba-laws (λ x y e i. (eqb-true x.0 y.0 e i, tt), tt)

pub returns-clause-ndta : goal.returns-clause-ndta
returns-clause-ndta c = derived-equality ndta _ ndta-laws (λ x y e i. (eqb-true x.0 y.0 e i, tt), tt)
