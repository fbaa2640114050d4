-- Laws of the fields of neighbour tables.
use Rattle.std.proofs.Common.{◌≡◌, ℕ, List, [], length, refl}
use Rattle.neli_body.specs.laws.Headers.{last_place, number-back, place, value-back}
use Rattle.neli_consts_routing.specs.RtAddrFamily.{rt_addr_family_number, rt_addr_family_of, rt_addr_family_variants}
use Rattle.neli_consts_routing.specs.declared.addresses.RtAddrFamily.TheVariants as rt_addr_family
use Rattle.neli_wire.specs.Numbers.{AreBytes}
use Rattle.neli_wire.specs.laws.Constants.{first_with-number}
use Rattle.neli_rtnl_linux.specs.declared.ndtmsg.NdtmsgHeader.{NdtmsgHeader}
use Rattle.neli_rtnl_linux.specs.Ndtmsg.{IsPlainNdtmsg, ndtmsg_bytes, ndtmsg_header}

pub ndtmsg-width : (h : NdtmsgHeader) → length (ndtmsg_bytes h) ≡ 4
ndtmsg-width h = refl

pub ndtmsg-reads_back : (h : NdtmsgHeader) → IsPlainNdtmsg h → ndtmsg_header (ndtmsg_bytes h) ≡ h
ndtmsg-reads_back h is =
    rw (
      value-back 1 rt_addr_family_number rt_addr_family_of h.ndtm_family _ is.ndtm_family,
      number-back 1 h.pad1 _ is.pad1,
      number-back 2 h.pad2 [] is.pad2,
    ) refl

pub ndtmsg-writes_back : (s : List ℕ) → length s ≡ 4 → AreBytes s → ndtmsg_bytes (ndtmsg_header s) ≡ s
ndtmsg-writes_back s size small =
    place 1 0 3 s _ _ size small (first_with-number rt_addr_family_number rt_addr_family_variants
    rt_addr_family.UnrecognizedConst (λ n. refl) _)
    (place 1 1 2 s _ _ size small refl
    (last_place 2 2 s _ size small refl))
