-- Laws of the fields of addresses.
use Rattle.std.proofs.Common.{◌≡◌, ℕ, List, [], length, refl}
use Rattle.neli_body.specs.laws.Headers.{last_place, number-back, place, value-back}
use Rattle.neli_consts_routing.specs.RtAddrFamily.{rt_addr_family_number, rt_addr_family_of, rt_addr_family_variants}
use Rattle.neli_consts_routing.specs.declared.addresses.RtAddrFamily.TheVariants as rt_addr_family
use Rattle.neli_consts_routing.specs.RtScope.{rt_scope_number, rt_scope_of, rt_scope_variants}
use Rattle.neli_consts_routing.specs.declared.routes.RtScope.TheVariants as rt_scope
use Rattle.neli_wire.specs.Numbers.{AreBytes}
use Rattle.neli_wire.specs.laws.Constants.{first_with-number}
use Rattle.neli_rtnl.specs.declared.ifaddrmsg.IfaddrmsgHeader.{IfaddrmsgHeader}
use Rattle.neli_rtnl.specs.Ifaddrmsg.{IsPlainIfaddrmsg, ifaddrmsg_bytes, ifaddrmsg_header}

pub ifaddrmsg-width : (h : IfaddrmsgHeader) → length (ifaddrmsg_bytes h) ≡ 8
ifaddrmsg-width h = refl

pub ifaddrmsg-reads_back : (h : IfaddrmsgHeader) → IsPlainIfaddrmsg h → ifaddrmsg_header (ifaddrmsg_bytes h) ≡ h
ifaddrmsg-reads_back h is =
    rw (
      value-back 1 rt_addr_family_number rt_addr_family_of h.ifa_family _ is.ifa_family,
      number-back 1 h.ifa_prefixlen _ is.ifa_prefixlen,
      number-back 1 h.ifa_flags.0 _ is.ifa_flags,
      value-back 1 rt_scope_number rt_scope_of h.ifa_scope _ is.ifa_scope,
      number-back 4 h.ifa_index [] is.ifa_index,
    ) refl

pub ifaddrmsg-writes_back : (s : List ℕ) → length s ≡ 8 → AreBytes s → ifaddrmsg_bytes (ifaddrmsg_header s) ≡ s
ifaddrmsg-writes_back s size small =
    place 1 0 7 s _ _ size small (first_with-number rt_addr_family_number rt_addr_family_variants
    rt_addr_family.UnrecognizedConst (λ n. refl) _)
    (place 1 1 6 s _ _ size small refl
    (place 1 2 5 s _ _ size small refl
    (place 1 3 4 s _ _ size small (first_with-number rt_scope_number rt_scope_variants rt_scope.UnrecognizedConst
    (λ n. refl) _)
    (last_place 4 4 s _ size small refl))))
