use Rattle.std.specs.Prelude.{refl}
use Rattle.neli_attr.specs.laws.Equality.{bytes-equality, pair-equality, parts-equality}
use Rattle.neli_rtnl.specs.declared.rtmsg.RtmsgHeader.{RtmsgHeader}
use Rattle.neli_rtnl.specs.declared.tcmsg.TcmsgHeader.{TcmsgHeader}
use Rattle.neli_rtnl.specs.declared.fibmsg.FibmsgHeader.{FibmsgHeader}
use Rattle.neli_rtnl.specs.declared.rtgenmsg.RtgenmsgHeader.{RtgenmsgHeader}
use Rattle.neli_rtnl.specs.laws.Body.{body-equality, signed-equality}
use Rattle.neli_rtnl.proofs.laws.equality_of_routes.Goals as goal

pub returns-clause-rtmsg : goal.returns-clause-rtmsg
returns-clause-rtmsg c =
    let header =
    parts-equality (λ (h : RtmsgHeader). (
      h.rtm_family,
      (
        h.rtm_dst_len,
        (
          h.rtm_src_len,
          (
            h.rtm_tos,
            (
              h.rtm_table,
              (h.rtm_protocol, (h.rtm_scope, (h.rtm_type, h.rtm_flags))),
            ),
          ),
        ),
      ),
    ))
    (λ t. record {
      rtm_family = t.0;
      rtm_dst_len = t.1.0;
      rtm_src_len = t.1.1.0;
      rtm_tos = t.1.1.1.0;
      rtm_table =
          t.1.1.1.1.0;
      rtm_protocol = t.1.1.1.1.1.0;
      rtm_scope = t.1.1.1.1.1.1.0;
      rtm_type = t.1.1.1.1.1.1.1.0;
      rtm_flags =
          t.1.1.1.1.1.1.1.1;
    }) (λ h. refl)
    (pair-equality c.equality.ensures.rt_addr_family (pair-equality bytes-equality (pair-equality bytes-equality
    (pair-equality bytes-equality (pair-equality c.equality.ensures.rt_table
    (pair-equality c.equality.ensures.rtprot (pair-equality c.equality.ensures.rt_scope
    (pair-equality c.equality.ensures.rtn c.equality-3.ensures.rtm_f)))))))) in
    body-equality header c.equality-2.ensures.rta

pub returns-clause-tcmsg : goal.returns-clause-tcmsg
returns-clause-tcmsg c =
    let header =
    parts-equality (λ (h : TcmsgHeader). (
      h.tcm_family,
      (
        h.padding_char,
        (
          h.padding_short,
          (
            h.tcm_ifindex,
            (h.tcm_handle, (h.tcm_parent, h.tcm_info)),
          ),
        ),
      ),
    ))
    (λ t. record {
      tcm_family = t.0;
      padding_char = t.1.0;
      padding_short = t.1.1.0;
      tcm_ifindex = t.1.1.1.0;
      tcm_handle = t.1.1.1.1.0;
      tcm_parent = t.1.1.1.1.1.0;
      tcm_info = t.1.1.1.1.1.1;
    }) (λ h. refl)
    (pair-equality bytes-equality (pair-equality bytes-equality (pair-equality bytes-equality
    (pair-equality signed-equality (pair-equality bytes-equality (pair-equality bytes-equality bytes-equality)))))) in
    body-equality header c.equality-2.ensures.tca

pub returns-clause-fibmsg : goal.returns-clause-fibmsg
returns-clause-fibmsg c =
    let header =
    parts-equality (λ (h : FibmsgHeader). (
      h.fib_family,
      (
        h.fib_dst_len,
        (
          h.fib_src_len,
          (
            h.fib_tos,
            (
              h.fib_table,
              (h.pad1, (h.pad2, (h.fib_action, h.fib_flags))),
            ),
          ),
        ),
      ),
    ))
    (λ t. record {
      fib_family = t.0;
      fib_dst_len = t.1.0;
      fib_src_len = t.1.1.0;
      fib_tos = t.1.1.1.0;
      fib_table =
          t.1.1.1.1.0;
      pad1 = t.1.1.1.1.1.0;
      pad2 = t.1.1.1.1.1.1.0;
      fib_action = t.1.1.1.1.1.1.1.0;
      fib_flags =
          t.1.1.1.1.1.1.1.1;
    }) (λ h. refl)
    (pair-equality c.equality.ensures.rt_addr_family (pair-equality bytes-equality (pair-equality bytes-equality
    (pair-equality bytes-equality (pair-equality c.equality.ensures.rt_table (pair-equality bytes-equality
    (pair-equality bytes-equality (pair-equality c.equality.ensures.fr_act c.equality-3.ensures.frf)))))))) in
    body-equality header c.equality-2.ensures.frattr

pub returns-clause-rtgenmsg : goal.returns-clause-rtgenmsg
returns-clause-rtgenmsg c =
    let header =
    parts-equality (λ (h : RtgenmsgHeader). (h.rtgen_family, (h.pad1, h.pad2)))
    (λ t. record { rtgen_family = t.0; pad1 = t.1.0; pad2 = t.1.1 }) (λ h. refl)
    (pair-equality c.equality.ensures.rt_addr_family (pair-equality bytes-equality bytes-equality)) in
    body-equality header c.equality-2.ensures.ifa
