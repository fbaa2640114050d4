-- Laws of the fields of next hops.
use Rattle.std.proofs.Common.{◌≡◌, ℕ, List, [], length, refl}
use Rattle.neli_body.specs.laws.Headers.{last_place, number-back, place, value-back}
use Rattle.neli_consts_routing.specs.RtAddrFamily.{rt_addr_family_number, rt_addr_family_of, rt_addr_family_variants}
use Rattle.neli_consts_routing.specs.declared.addresses.RtAddrFamily.TheVariants as rt_addr_family
use Rattle.neli_consts_routing.specs.RtScope.{rt_scope_number, rt_scope_of, rt_scope_variants}
use Rattle.neli_consts_routing.specs.declared.routes.RtScope.TheVariants as rt_scope
use Rattle.neli_consts_routing.specs.Rtprot.{rtprot_number, rtprot_of, rtprot_variants}
use Rattle.neli_consts_routing.specs.declared.routes.Rtprot.TheVariants as rtprot
use Rattle.neli_wire.specs.Numbers.{AreBytes}
use Rattle.neli_wire.specs.laws.Constants.{first_with-number}
use Rattle.neli_rtnl_linux.specs.declared.nhmsg.NhmsgHeader.{NhmsgHeader}
use Rattle.neli_rtnl_linux.specs.Nhmsg.{IsPlainNhmsg, nhmsg_bytes, nhmsg_header}

pub nhmsg-width : (h : NhmsgHeader) → length (nhmsg_bytes h) ≡ 8
nhmsg-width h = refl

pub nhmsg-reads_back : (h : NhmsgHeader) → IsPlainNhmsg h → nhmsg_header (nhmsg_bytes h) ≡ h
nhmsg-reads_back h is =
    rw (
      value-back 1 rt_addr_family_number rt_addr_family_of h.nh_family _ is.nh_family,
      value-back 1 rt_scope_number rt_scope_of h.nh_scope _ is.nh_scope,
      value-back 1 rtprot_number rtprot_of h.nh_protocol _ is.nh_protocol,
      number-back 1 h.resvd _ is.resvd,
      number-back 4 h.nh_flags [] is.nh_flags,
    ) refl

pub nhmsg-writes_back : (s : List ℕ) → length s ≡ 8 → AreBytes s → nhmsg_bytes (nhmsg_header s) ≡ s
nhmsg-writes_back s size small =
    place 1 0 7 s _ _ size small (first_with-number rt_addr_family_number rt_addr_family_variants
    rt_addr_family.UnrecognizedConst (λ n. refl) _)
    (place 1 1 6 s _ _ size small (first_with-number rt_scope_number rt_scope_variants
    rt_scope.UnrecognizedConst (λ n. refl) _)
    (place 1 2 5 s _ _ size small (first_with-number rtprot_number rtprot_variants
    rtprot.UnrecognizedConst (λ n. refl) _)
    (place 1 3 4 s _ _ size small refl
    (last_place 4 4 s _ size small refl))))
