-- Laws of the fields of links.
use Rattle.std.proofs.Common.{◌≡◌, ℕ, List, [], length, refl}
use Rattle.neli_body.specs.laws.Headers.{last_place, number-back, place, signed-back, signed-place, value-back}
use Rattle.neli_consts_routing.specs.Arphrd.{arphrd_number, arphrd_of, arphrd_variants}
use Rattle.neli_consts_routing.specs.declared.links.Arphrd.TheVariants as arphrd
use Rattle.neli_consts_routing.specs.RtAddrFamily.{rt_addr_family_number, rt_addr_family_of, rt_addr_family_variants}
use Rattle.neli_consts_routing.specs.declared.addresses.RtAddrFamily.TheVariants as rt_addr_family
use Rattle.neli_wire.specs.Numbers.{AreBytes}
use Rattle.neli_wire.specs.laws.Constants.{first_with-number}
use Rattle.neli_rtnl.specs.declared.ifinfomsg.IfinfomsgHeader.{IfinfomsgHeader}
use Rattle.neli_rtnl.specs.Ifinfomsg.{IsPlainIfinfomsg, ifinfomsg_bytes, ifinfomsg_header}

pub ifinfomsg-width : (h : IfinfomsgHeader) → length (ifinfomsg_bytes h) ≡ 16
ifinfomsg-width h = refl

pub ifinfomsg-reads_back : (h : IfinfomsgHeader) → IsPlainIfinfomsg h → ifinfomsg_header (ifinfomsg_bytes h) ≡ h
ifinfomsg-reads_back h is =
    rw (
      value-back 1 rt_addr_family_number rt_addr_family_of h.ifi_family _ is.ifi_family,
      number-back 1 h.padding _ is.padding,
      value-back 2 arphrd_number arphrd_of h.ifi_type _ is.ifi_type,
      signed-back h.ifi_index _ is.ifi_index,
      number-back 4 h.ifi_flags.0 _ is.ifi_flags,
      number-back 4 h.ifi_change.0 [] is.ifi_change,
    ) refl

pub ifinfomsg-writes_back : (s : List ℕ) → length s ≡ 16 → AreBytes s → ifinfomsg_bytes (ifinfomsg_header s) ≡ s
ifinfomsg-writes_back s size small =
    place 1 0 15 s _ _ size small (first_with-number rt_addr_family_number rt_addr_family_variants
    rt_addr_family.UnrecognizedConst (λ n. refl) _)
    (place 1 1 14 s _ _ size small refl
    (place 2 2 12 s _ _ size small (first_with-number arphrd_number arphrd_variants arphrd.UnrecognizedConst
    (λ n. refl) _)
    (place 4 4 8 s _ _ size small (signed-place 4 s small)
    (place 4 8 4 s _ _ size small refl
    (last_place 4 12 s _ size small refl)))))
