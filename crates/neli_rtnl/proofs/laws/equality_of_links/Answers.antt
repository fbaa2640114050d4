use Rattle.std.specs.Prelude.{refl}
use Rattle.neli_attr.specs.laws.Equality.{bytes-equality, pair-equality, parts-equality}
use Rattle.neli_rtnl.specs.declared.ifinfomsg.IfinfomsgHeader.{IfinfomsgHeader}
use Rattle.neli_rtnl.specs.declared.ifaddrmsg.IfaddrmsgHeader.{IfaddrmsgHeader}
use Rattle.neli_rtnl.specs.declared.ndmsg.NdmsgHeader.{NdmsgHeader}
use Rattle.neli_rtnl.specs.declared.nda_cacheinfo.NdaCacheinfo.{NdaCacheinfo}
use Rattle.neli_rtnl.specs.declared.ifla_vlan_flags.IflaVlanFlags.{IflaVlanFlags}
use Rattle.neli_rtnl.specs.declared.ifla_vlan_qos_mapping.IflaVlanQosMapping.{IflaVlanQosMapping}
use Rattle.neli_rtnl.specs.laws.Body.{body-equality, signed-equality}
use Rattle.neli_rtnl.proofs.laws.equality_of_links.Goals as goal

pub returns-clause-ifinfomsg : goal.returns-clause-ifinfomsg
returns-clause-ifinfomsg c =
    let header =
    parts-equality (λ (h : IfinfomsgHeader). (
      h.ifi_family,
      (
        h.padding,
        (
          h.ifi_type,
          (
            h.ifi_index,
            (
              h.ifi_flags,
              h.ifi_change,
            ),
          ),
        ),
      ),
    ))
    (λ t. record {
      ifi_family = t.0;
      padding = t.1.0;
      ifi_type = t.1.1.0;
      ifi_index = t.1.1.1.0;
      ifi_flags =
          t.1.1.1.1.0;
      ifi_change = t.1.1.1.1.1;
    }) (λ h. refl)
    (pair-equality c.equality.ensures.rt_addr_family (pair-equality bytes-equality
    (pair-equality c.equality.ensures.arphrd (pair-equality signed-equality
    (pair-equality c.equality-3.ensures.iff c.equality-3.ensures.iff))))) in
    body-equality header c.equality-2.ensures.ifla

pub returns-clause-ifaddrmsg : goal.returns-clause-ifaddrmsg
returns-clause-ifaddrmsg c =
    let header =
    parts-equality (λ (h : IfaddrmsgHeader). (
      h.ifa_family,
      (
        h.ifa_prefixlen,
        (
          h.ifa_flags,
          (
            h.ifa_scope,
            h.ifa_index,
          ),
        ),
      ),
    ))
    (λ t. record {
      ifa_family = t.0;
      ifa_prefixlen = t.1.0;
      ifa_flags = t.1.1.0;
      ifa_scope = t.1.1.1.0;
      ifa_index =
          t.1.1.1.1;
    }) (λ h. refl)
    (pair-equality c.equality.ensures.rt_addr_family (pair-equality bytes-equality
    (pair-equality c.equality-3.ensures.ifa_f (pair-equality c.equality.ensures.rt_scope bytes-equality)))) in
    body-equality header c.equality-2.ensures.ifa

pub returns-clause-ndmsg : goal.returns-clause-ndmsg
returns-clause-ndmsg c =
    let header =
    parts-equality (λ (h : NdmsgHeader). (
      h.ndm_family,
      (
        h.pad1,
        (
          h.pad2,
          (
            h.ndm_index,
            (
              h.ndm_state,
              (
                h.ndm_flags,
                h.ndm_type,
              ),
            ),
          ),
        ),
      ),
    ))
    (λ t. record {
      ndm_family = t.0;
      pad1 = t.1.0;
      pad2 = t.1.1.0;
      ndm_index = t.1.1.1.0;
      ndm_state = t.1.1.1.1.0;
      ndm_flags = t.1.1.1.1.1.0;
      ndm_type = t.1.1.1.1.1.1;
    }) (λ h. refl)
    (pair-equality c.equality.ensures.rt_addr_family (pair-equality bytes-equality (pair-equality bytes-equality
    (pair-equality signed-equality (pair-equality c.equality-3.ensures.nud
    (pair-equality c.equality-3.ensures.ntf c.equality.ensures.rtn)))))) in
    body-equality header c.equality-2.ensures.nda

pub returns-clause-nda_cacheinfo : goal.returns-clause-nda_cacheinfo
returns-clause-nda_cacheinfo c =
    parts-equality (λ (v : NdaCacheinfo). (v.ndm_confirmed, (v.ndm_used, (v.ndm_updated, v.ndm_refcnt))))
    (λ t. record { ndm_confirmed = t.0; ndm_used = t.1.0; ndm_updated = t.1.1.0; ndm_refcnt = t.1.1.1 }) (λ v. refl)
    (pair-equality bytes-equality (pair-equality bytes-equality (pair-equality bytes-equality bytes-equality)))

pub returns-clause-ifla_vlan_flags : goal.returns-clause-ifla_vlan_flags
returns-clause-ifla_vlan_flags c =
    parts-equality (λ (v : IflaVlanFlags). (v.flags, v.mask))
    (λ t. record { flags = t.0; mask = t.1 }) (λ v. refl)
    (pair-equality c.equality-3.ensures.vlan_flags c.equality-3.ensures.vlan_flags)

pub returns-clause-ifla_vlan_qos_mapping : goal.returns-clause-ifla_vlan_qos_mapping
returns-clause-ifla_vlan_qos_mapping c =
    parts-equality (λ (v : IflaVlanQosMapping). (v.from, v.to))
    (λ t. record { from = t.0; to = t.1 }) (λ v. refl)
    (pair-equality bytes-equality bytes-equality)
