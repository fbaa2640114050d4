-- Laws of the fields of statistics of links.
use Rattle.std.proofs.Common.{◌≡◌, ℕ, List, [], length, refl}
use Rattle.neli_body.specs.laws.Headers.{last_place, number-back, place, value-back}
use Rattle.neli_consts_routing.specs.RtAddrFamily.{rt_addr_family_number, rt_addr_family_of, rt_addr_family_variants}
use Rattle.neli_consts_routing.specs.declared.addresses.RtAddrFamily.TheVariants as rt_addr_family
use Rattle.neli_wire.specs.Numbers.{AreBytes}
use Rattle.neli_wire.specs.laws.Constants.{first_with-number}
use Rattle.neli_rtnl_linux.specs.declared.if_stats_msg.IfStatsMsgHeader.{IfStatsMsgHeader}
use Rattle.neli_rtnl_linux.specs.IfStatsMsg.{IsPlainIfStatsMsg, if_stats_msg_bytes, if_stats_msg_header}

pub if_stats_msg-width : (h : IfStatsMsgHeader) → length (if_stats_msg_bytes h) ≡ 12
if_stats_msg-width h = refl

pub if_stats_msg-reads_back : (h : IfStatsMsgHeader) → IsPlainIfStatsMsg h
    → if_stats_msg_header (if_stats_msg_bytes h) ≡ h
if_stats_msg-reads_back h is =
    rw (
      value-back 1 rt_addr_family_number rt_addr_family_of h.family _ is.family,
      number-back 1 h.pad1 _ is.pad1,
      number-back 2 h.pad2 _ is.pad2,
      number-back 4 h.ifindex _ is.ifindex,
      number-back 4 h.filter_mask [] is.filter_mask,
    ) refl

pub if_stats_msg-writes_back : (s : List ℕ) → length s ≡ 12 → AreBytes s
    → if_stats_msg_bytes (if_stats_msg_header s) ≡ s
if_stats_msg-writes_back s size small =
    place 1 0 11 s _ _ size small (first_with-number rt_addr_family_number rt_addr_family_variants
    rt_addr_family.UnrecognizedConst (λ n. refl) _)
    (place 1 1 10 s _ _ size small refl
    (place 2 2 8 s _ _ size small refl
    (place 4 4 4 s _ _ size small refl
    (last_place 4 8 s _ size small refl))))
