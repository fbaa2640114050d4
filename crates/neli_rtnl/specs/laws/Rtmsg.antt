-- Laws of the fields of routes.
use Rattle.std.proofs.Common.{◌≡◌, ℕ, List, [], length, refl}
use Rattle.neli_body.specs.laws.Headers.{last_place, number-back, place, value-back}
use Rattle.neli_consts_routing.specs.RtAddrFamily.{rt_addr_family_number, rt_addr_family_of, rt_addr_family_variants}
use Rattle.neli_consts_routing.specs.declared.addresses.RtAddrFamily.TheVariants as rt_addr_family
use Rattle.neli_consts_routing.specs.RtScope.{rt_scope_number, rt_scope_of, rt_scope_variants}
use Rattle.neli_consts_routing.specs.declared.routes.RtScope.TheVariants as rt_scope
use Rattle.neli_consts_routing.specs.RtTable.{rt_table_number, rt_table_of, rt_table_variants}
use Rattle.neli_consts_routing.specs.declared.routes.RtTable.TheVariants as rt_table
use Rattle.neli_consts_routing.specs.Rtn.{rtn_number, rtn_of, rtn_variants}
use Rattle.neli_consts_routing.specs.declared.routes.Rtn.TheVariants as rtn
use Rattle.neli_consts_routing.specs.Rtprot.{rtprot_number, rtprot_of, rtprot_variants}
use Rattle.neli_consts_routing.specs.declared.routes.Rtprot.TheVariants as rtprot
use Rattle.neli_wire.specs.Numbers.{AreBytes}
use Rattle.neli_wire.specs.laws.Constants.{first_with-number}
use Rattle.neli_rtnl.specs.declared.rtmsg.RtmsgHeader.{RtmsgHeader}
use Rattle.neli_rtnl.specs.Rtmsg.{IsPlainRtmsg, rtmsg_bytes, rtmsg_header}

pub rtmsg-width : (h : RtmsgHeader) → length (rtmsg_bytes h) ≡ 12
rtmsg-width h = refl

pub rtmsg-reads_back : (h : RtmsgHeader) → IsPlainRtmsg h → rtmsg_header (rtmsg_bytes h) ≡ h
rtmsg-reads_back h is =
    rw (
      value-back 1 rt_addr_family_number rt_addr_family_of h.rtm_family _ is.rtm_family,
      number-back 1 h.rtm_dst_len _ is.rtm_dst_len,
      number-back 1 h.rtm_src_len _ is.rtm_src_len,
      number-back 1 h.rtm_tos _ is.rtm_tos,
      value-back 1 rt_table_number rt_table_of h.rtm_table _ is.rtm_table,
      value-back 1 rtprot_number rtprot_of h.rtm_protocol _ is.rtm_protocol,
      value-back 1 rt_scope_number rt_scope_of h.rtm_scope _ is.rtm_scope,
      value-back 1 rtn_number rtn_of h.rtm_type _ is.rtm_type,
      number-back 4 h.rtm_flags.0 [] is.rtm_flags,
    ) refl

pub rtmsg-writes_back : (s : List ℕ) → length s ≡ 12 → AreBytes s → rtmsg_bytes (rtmsg_header s) ≡ s
rtmsg-writes_back s size small =
    place 1 0 11 s _ _ size small (first_with-number rt_addr_family_number rt_addr_family_variants
    rt_addr_family.UnrecognizedConst (λ n. refl) _)
    (place 1 1 10 s _ _ size small refl
    (place 1 2 9 s _ _ size small refl
    (place 1 3 8 s _ _ size small refl
    (place 1 4 7 s _ _ size small (first_with-number rt_table_number rt_table_variants rt_table.UnrecognizedConst
    (λ n. refl) _)
    (place 1 5 6 s _ _ size small (first_with-number rtprot_number rtprot_variants rtprot.UnrecognizedConst
    (λ n. refl) _)
    (place 1 6 5 s _ _ size small (first_with-number rt_scope_number rt_scope_variants rt_scope.UnrecognizedConst
    (λ n. refl) _)
    (place 1 7 4 s _ _ size small (first_with-number rtn_number rtn_variants rtn.UnrecognizedConst (λ n. refl) _)
    (last_place 4 8 s _ size small refl))))))))
