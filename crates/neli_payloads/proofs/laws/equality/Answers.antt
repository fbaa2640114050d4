use Rattle.std.specs.Prelude.{refl}
use Rattle.std.specs.Ordering.{int_eq}
use Rattle.std.specs.Cmp.{signed_Decides}
use Rattle.neli_wire.specs.Constants.{IsEquality}
use Rattle.neli_attr.specs.laws.Equality.{bytes-equality, lists-equality, pair-equality, parts-equality}
use Rattle.neli_payloads.specs.declared.ifa_cacheinfo.IfaCacheinfo.{IfaCacheinfo}
use Rattle.neli_payloads.specs.declared.rta_cacheinfo.RtaCacheinfo.{RtaCacheinfo}
use Rattle.neli_payloads.specs.declared.link_stats64.LinkStats64.{LinkStats64}
use Rattle.neli_payloads.specs.declared.vf_guid.VfGuid.{VfGuid}
use Rattle.neli_payloads.specs.declared.vf_mac.VfMac.{VfMac}
use Rattle.neli_payloads.specs.declared.vf_rate.VfRate.{VfRate}
use Rattle.neli_payloads.specs.declared.vf_setting.VfSetting.{VfSetting}
use Rattle.neli_payloads.specs.declared.vf_vlan.VfVlan.{VfVlan}
use Rattle.neli_payloads.specs.declared.vf_vlan_info.VfVlanInfo.{VfVlanInfo}
use Rattle.neli_payloads.proofs.laws.equality.Goals as goal

signed : IsEquality int_eq
signed = λ a b. signed_Decides a b

pub returns-clause-hardware_address : goal.returns-clause-hardware_address
returns-clause-hardware_address c = lists-equality bytes-equality

pub returns-clause-ifa_cacheinfo : goal.returns-clause-ifa_cacheinfo
returns-clause-ifa_cacheinfo c =
    parts-equality (λ (v : IfaCacheinfo). (v.ifa_prefered, (v.ifa_valid, (v.cstamp, v.tstamp))))
    (λ t. record {
      ifa_prefered = t.0;
      ifa_valid = t.1.0;
      cstamp = t.1.1.0;
      tstamp = t.1.1.1;
    }) (λ v. refl)
    (pair-equality bytes-equality (pair-equality bytes-equality (pair-equality bytes-equality bytes-equality)))

pub returns-clause-rta_cacheinfo : goal.returns-clause-rta_cacheinfo
returns-clause-rta_cacheinfo c =
    parts-equality (λ (v : RtaCacheinfo). (
      v.rta_clntref,
      (v.rta_lastuse, (v.rta_expires, (v.rta_error, (v.rta_used, (v.rta_id, (v.rta_ts, v.rta_tsage)))))),
    ))
    (λ t. record {
      rta_clntref = t.0;
      rta_lastuse = t.1.0;
      rta_expires = t.1.1.0;
      rta_error = t.1.1.1.0;
      rta_used = t.1.1.1.1.0;
      rta_id = t.1.1.1.1.1.0;
      rta_ts = t.1.1.1.1.1.1.0;
      rta_tsage = t.1.1.1.1.1.1.1;
    }) (λ v. refl)
    (pair-equality bytes-equality (pair-equality bytes-equality
    (pair-equality signed (pair-equality bytes-equality
    (pair-equality bytes-equality (pair-equality bytes-equality (pair-equality bytes-equality bytes-equality)))))))

pub returns-clause-link_stats64 : goal.returns-clause-link_stats64
returns-clause-link_stats64 c =
    parts-equality (λ (v : LinkStats64). (
      v.rx_packets,
      (
        v.tx_packets,
        (
          v.rx_bytes,
          (
            v.tx_bytes,
            (
              v.rx_errors,
              (
                v.tx_errors,
                (
                  v.rx_dropped,
                  (
                    v.tx_dropped,
                    (
                      v.multicast,
                      (
                        v.collisions,
                        (
                          v.rx_length_errors,
                          (
                            v.rx_over_errors,
                            (
                              v.rx_crc_errors,
                              (
                                v.rx_frame_errors,
                                (
                                  v.rx_fifo_errors,
                                  (
                                    v.rx_missed_errors,
                                    (
                                      v.tx_aborted_errors,
                                      (
                                        v.tx_carrier_errors,
                                        (
                                          v.tx_fifo_errors,
                                          (
                                            v.tx_heartbeat_errors,
                                            (
                                              v.tx_window_errors,
                                              (v.rx_compressed, (v.tx_compressed, (v.rx_nohandler, v.rx_otherhost_dropped))),
                                            ),
                                          ),
                                        ),
                                      ),
                                    ),
                                  ),
                                ),
                              ),
                            ),
                          ),
                        ),
                      ),
                    ),
                  ),
                ),
              ),
            ),
          ),
        ),
      ),
    ))
    (λ t. record {
      rx_packets = t.0;
      tx_packets = t.1.0;
      rx_bytes = t.1.1.0;
      tx_bytes = t.1.1.1.0;
      rx_errors = t.1.1.1.1.0;
      tx_errors = t.1.1.1.1.1.0;
      rx_dropped = t.1.1.1.1.1.1.0;
      tx_dropped = t.1.1.1.1.1.1.1.0;
      multicast = t.1.1.1.1.1.1.1.1.0;
      collisions = t.1.1.1.1.1.1.1.1.1.0;
      rx_length_errors = t.1.1.1.1.1.1.1.1.1.1.0;
      rx_over_errors = t.1.1.1.1.1.1.1.1.1.1.1.0;
      rx_crc_errors = t.1.1.1.1.1.1.1.1.1.1.1.1.0;
      rx_frame_errors = t.1.1.1.1.1.1.1.1.1.1.1.1.1.0;
      rx_fifo_errors = t.1.1.1.1.1.1.1.1.1.1.1.1.1.1.0;
      rx_missed_errors = t.1.1.1.1.1.1.1.1.1.1.1.1.1.1.1.0;
      tx_aborted_errors = t.1.1.1.1.1.1.1.1.1.1.1.1.1.1.1.1.0;
      tx_carrier_errors = t.1.1.1.1.1.1.1.1.1.1.1.1.1.1.1.1.1.0;
      tx_fifo_errors = t.1.1.1.1.1.1.1.1.1.1.1.1.1.1.1.1.1.1.0;
      tx_heartbeat_errors = t.1.1.1.1.1.1.1.1.1.1.1.1.1.1.1.1.1.1.1.0;
      tx_window_errors = t.1.1.1.1.1.1.1.1.1.1.1.1.1.1.1.1.1.1.1.1.0;
      rx_compressed = t.1.1.1.1.1.1.1.1.1.1.1.1.1.1.1.1.1.1.1.1.1.0;
      tx_compressed = t.1.1.1.1.1.1.1.1.1.1.1.1.1.1.1.1.1.1.1.1.1.1.0;
      rx_nohandler = t.1.1.1.1.1.1.1.1.1.1.1.1.1.1.1.1.1.1.1.1.1.1.1.0;
      rx_otherhost_dropped = t.1.1.1.1.1.1.1.1.1.1.1.1.1.1.1.1.1.1.1.1.1.1.1.1;
    }) (λ v. refl)
    (pair-equality bytes-equality (pair-equality bytes-equality
    (pair-equality bytes-equality (pair-equality bytes-equality
    (pair-equality bytes-equality (pair-equality bytes-equality
    (pair-equality bytes-equality (pair-equality bytes-equality
    (pair-equality bytes-equality (pair-equality bytes-equality
    (pair-equality bytes-equality (pair-equality bytes-equality
    (pair-equality bytes-equality (pair-equality bytes-equality
    (pair-equality bytes-equality (pair-equality bytes-equality
    (pair-equality bytes-equality (pair-equality bytes-equality
    (pair-equality bytes-equality (pair-equality bytes-equality
    (pair-equality bytes-equality (pair-equality bytes-equality
    (pair-equality bytes-equality (pair-equality bytes-equality bytes-equality))))))))))))))))))))))))

pub returns-clause-vf_setting : goal.returns-clause-vf_setting
returns-clause-vf_setting c =
    parts-equality (λ (v : VfSetting). (v.vf, v.setting))
    (λ t. record {
      vf = t.0;
      setting = t.1;
    }) (λ v. refl)
    (pair-equality bytes-equality bytes-equality)

pub returns-clause-vf_rate : goal.returns-clause-vf_rate
returns-clause-vf_rate c =
    parts-equality (λ (v : VfRate). (v.vf, (v.min_tx_rate, v.max_tx_rate)))
    (λ t. record {
      vf = t.0;
      min_tx_rate = t.1.0;
      max_tx_rate = t.1.1;
    }) (λ v. refl)
    (pair-equality bytes-equality (pair-equality bytes-equality bytes-equality))

pub returns-clause-vf_vlan : goal.returns-clause-vf_vlan
returns-clause-vf_vlan c =
    parts-equality (λ (v : VfVlan). (v.vf, (v.vlan, v.qos)))
    (λ t. record {
      vf = t.0;
      vlan = t.1.0;
      qos = t.1.1;
    }) (λ v. refl)
    (pair-equality bytes-equality (pair-equality bytes-equality bytes-equality))

pub returns-clause-vf_vlan_info : goal.returns-clause-vf_vlan_info
returns-clause-vf_vlan_info c =
    parts-equality (λ (v : VfVlanInfo). (v.vf, (v.vlan, (v.qos, (v.vlan_proto, v.padding)))))
    (λ t. record {
      vf = t.0;
      vlan = t.1.0;
      qos = t.1.1.0;
      vlan_proto = t.1.1.1.0;
      padding = t.1.1.1.1;
    }) (λ v. refl)
    (pair-equality bytes-equality (pair-equality bytes-equality
    (pair-equality bytes-equality (pair-equality bytes-equality bytes-equality))))

pub returns-clause-vf_mac : goal.returns-clause-vf_mac
returns-clause-vf_mac c =
    parts-equality (λ (v : VfMac). (v.vf, v.mac))
    (λ t. record {
      vf = t.0;
      mac = t.1;
    }) (λ v. refl)
    (pair-equality bytes-equality (lists-equality bytes-equality))

pub returns-clause-vf_guid : goal.returns-clause-vf_guid
returns-clause-vf_guid c =
    parts-equality (λ (v : VfGuid). (v.vf, (v.padding, v.guid)))
    (λ t. record {
      vf = t.0;
      padding = t.1.0;
      guid = t.1.1;
    }) (λ v. refl)
    (pair-equality bytes-equality (pair-equality bytes-equality bytes-equality))
