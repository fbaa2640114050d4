use Rattle.std.specs.Prelude.{refl}
use Rattle.neli_attr.specs.laws.Equality.{bytes-equality, pair-equality, parts-equality}
use Rattle.neli_rtnl_linux.specs.declared.nhmsg.NhmsgHeader.{NhmsgHeader}
use Rattle.neli_rtnl_linux.specs.declared.br_port_msg.BrPortMsgHeader.{BrPortMsgHeader}
use Rattle.neli_rtnl_linux.specs.declared.if_stats_msg.IfStatsMsgHeader.{IfStatsMsgHeader}
use Rattle.neli_rtnl_linux.specs.declared.ndtmsg.NdtmsgHeader.{NdtmsgHeader}
use Rattle.neli_rtnl_linux.specs.declared.gnet_stats_basic.GnetStatsBasic.{GnetStatsBasic}
use Rattle.neli_rtnl_linux.specs.declared.gnet_stats_queue.GnetStatsQueue.{GnetStatsQueue}
use Rattle.neli_rtnl_linux.specs.declared.tc_handle.TcHandle.{TcHandle}
use Rattle.neli_rtnl.specs.laws.Body.{body-equality}
use Rattle.neli_rtnl_linux.proofs.laws.equality.Goals as goal

pub returns-clause-nhmsg : goal.returns-clause-nhmsg
returns-clause-nhmsg c =
    let header =
    parts-equality (λ (h : NhmsgHeader). (h.nh_family, (h.nh_scope, (h.nh_protocol, (h.resvd, h.nh_flags)))))
    (λ t. record {
      nh_family = t.0;
      nh_scope = t.1.0;
      nh_protocol = t.1.1.0;
      resvd = t.1.1.1.0;
      nh_flags = t.1.1.1.1;
    }) (λ h. refl)
    (pair-equality c.equality.ensures.rt_addr_family (pair-equality c.equality.ensures.rt_scope
    (pair-equality c.equality.ensures.rtprot (pair-equality bytes-equality bytes-equality)))) in
    body-equality header c.equality-2.ensures.nha

pub returns-clause-br_port_msg : goal.returns-clause-br_port_msg
returns-clause-br_port_msg c =
    let header =
    parts-equality (λ (h : BrPortMsgHeader). (h.family, (h.pad1, (h.pad2, h.ifindex))))
    (λ t. record {
      family = t.0;
      pad1 = t.1.0;
      pad2 = t.1.1.0;
      ifindex = t.1.1.1;
    }) (λ h. refl)
    (pair-equality c.equality.ensures.rt_addr_family (pair-equality bytes-equality
    (pair-equality bytes-equality bytes-equality))) in
    body-equality header c.equality-2.ensures.mdba

pub returns-clause-if_stats_msg : goal.returns-clause-if_stats_msg
returns-clause-if_stats_msg c =
    let header =
    parts-equality (λ (h : IfStatsMsgHeader). (h.family, (h.pad1, (h.pad2, (h.ifindex, h.filter_mask)))))
    (λ t. record {
      family = t.0;
      pad1 = t.1.0;
      pad2 = t.1.1.0;
      ifindex = t.1.1.1.0;
      filter_mask = t.1.1.1.1;
    }) (λ h. refl)
    (pair-equality c.equality.ensures.rt_addr_family (pair-equality bytes-equality (pair-equality bytes-equality
    (pair-equality bytes-equality bytes-equality)))) in
    body-equality header c.equality-2.ensures.ifla_stats

pub returns-clause-ndtmsg : goal.returns-clause-ndtmsg
returns-clause-ndtmsg c =
    let header =
    parts-equality (λ (h : NdtmsgHeader). (h.ndtm_family, (h.pad1, h.pad2)))
    (λ t. record {
      ndtm_family = t.0;
      pad1 = t.1.0;
      pad2 = t.1.1;
    }) (λ h. refl)
    (pair-equality c.equality.ensures.rt_addr_family (pair-equality bytes-equality bytes-equality)) in
    body-equality header c.equality-2.ensures.ndta

pub returns-clause-gnet_stats_basic : goal.returns-clause-gnet_stats_basic
returns-clause-gnet_stats_basic c =
    parts-equality (λ (v : GnetStatsBasic). (v.bytes, (v.packets, v.padding)))
    (λ t. record {
      bytes = t.0;
      packets = t.1.0;
      padding = t.1.1;
    }) (λ v. refl)
    (pair-equality bytes-equality (pair-equality bytes-equality bytes-equality))

pub returns-clause-gnet_stats_queue : goal.returns-clause-gnet_stats_queue
returns-clause-gnet_stats_queue c =
    parts-equality (λ (v : GnetStatsQueue). (v.qlen, (v.backlog, (v.drops, (v.requeues, v.overlimits)))))
    (λ t. record {
      qlen = t.0;
      backlog = t.1.0;
      drops = t.1.1.0;
      requeues = t.1.1.1.0;
      overlimits = t.1.1.1.1;
    }) (λ v. refl)
    (pair-equality bytes-equality (pair-equality bytes-equality (pair-equality bytes-equality
    (pair-equality bytes-equality bytes-equality))))

pub returns-clause-tc_handle : goal.returns-clause-tc_handle
returns-clause-tc_handle c =
    parts-equality (λ (v : TcHandle). v.0) (λ n. record { 0 = n }) (λ v. refl) bytes-equality
