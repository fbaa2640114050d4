-- Laws of the fields of requests by family.
use Rattle.std.proofs.Common.{◌≡◌, ℕ, List, [], length, refl}
use Rattle.neli_body.specs.laws.Headers.{last_place, number-back, place, value-back}
use Rattle.neli_consts_routing.specs.RtAddrFamily.{rt_addr_family_number, rt_addr_family_of, rt_addr_family_variants}
use Rattle.neli_consts_routing.specs.declared.addresses.RtAddrFamily.TheVariants as rt_addr_family
use Rattle.neli_wire.specs.Numbers.{AreBytes}
use Rattle.neli_wire.specs.laws.Constants.{first_with-number}
use Rattle.neli_rtnl.specs.declared.rtgenmsg.RtgenmsgHeader.{RtgenmsgHeader}
use Rattle.neli_rtnl.specs.Rtgenmsg.{IsPlainRtgenmsg, rtgenmsg_bytes, rtgenmsg_header}

pub rtgenmsg-width : (h : RtgenmsgHeader) → length (rtgenmsg_bytes h) ≡ 4
rtgenmsg-width h = refl

pub rtgenmsg-reads_back : (h : RtgenmsgHeader) → IsPlainRtgenmsg h → rtgenmsg_header (rtgenmsg_bytes h) ≡ h
rtgenmsg-reads_back h is =
    rw (
      value-back 1 rt_addr_family_number rt_addr_family_of h.rtgen_family _ is.rtgen_family,
      number-back 1 h.pad1 _ is.pad1,
      number-back 2 h.pad2 [] is.pad2,
    ) refl

pub rtgenmsg-writes_back : (s : List ℕ) → length s ≡ 4 → AreBytes s → rtgenmsg_bytes (rtgenmsg_header s) ≡ s
rtgenmsg-writes_back s size small =
    place 1 0 3 s _ _ size small (first_with-number rt_addr_family_number rt_addr_family_variants
    rt_addr_family.UnrecognizedConst (λ n. refl) _)
    (place 1 1 2 s _ _ size small refl
    (last_place 2 2 s _ size small refl))
