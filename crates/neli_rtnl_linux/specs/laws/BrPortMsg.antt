-- Laws of the fields of multicast groups of bridges.
use Rattle.std.proofs.Common.{◌≡◌, ℕ, List, [], length, refl}
use Rattle.neli_body.specs.laws.Headers.{last_place, number-back, place, value-back}
use Rattle.neli_consts_routing.specs.RtAddrFamily.{rt_addr_family_number, rt_addr_family_of, rt_addr_family_variants}
use Rattle.neli_consts_routing.specs.declared.addresses.RtAddrFamily.TheVariants as rt_addr_family
use Rattle.neli_wire.specs.Numbers.{AreBytes}
use Rattle.neli_wire.specs.laws.Constants.{first_with-number}
use Rattle.neli_rtnl_linux.specs.declared.br_port_msg.BrPortMsgHeader.{BrPortMsgHeader}
use Rattle.neli_rtnl_linux.specs.BrPortMsg.{IsPlainBrPortMsg, br_port_msg_bytes, br_port_msg_header}

pub br_port_msg-width : (h : BrPortMsgHeader) → length (br_port_msg_bytes h) ≡ 8
br_port_msg-width h = refl

pub br_port_msg-reads_back : (h : BrPortMsgHeader) → IsPlainBrPortMsg h → br_port_msg_header (br_port_msg_bytes h) ≡ h
br_port_msg-reads_back h is =
    rw (
      value-back 1 rt_addr_family_number rt_addr_family_of h.family _ is.family,
      number-back 1 h.pad1 _ is.pad1,
      number-back 2 h.pad2 _ is.pad2,
      number-back 4 h.ifindex [] is.ifindex,
    ) refl

pub br_port_msg-writes_back : (s : List ℕ) → length s ≡ 8 → AreBytes s → br_port_msg_bytes (br_port_msg_header s) ≡ s
br_port_msg-writes_back s size small =
    place 1 0 7 s _ _ size small (first_with-number rt_addr_family_number rt_addr_family_variants
    rt_addr_family.UnrecognizedConst (λ n. refl) _)
    (place 1 1 6 s _ _ size small refl
    (place 2 2 4 s _ _ size small refl
    (last_place 4 4 s _ size small refl)))
