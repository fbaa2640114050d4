-- Laws of the fields of neighbours.
use Rattle.std.proofs.Common.{◌≡◌, ℕ, List, [], length, refl}
use Rattle.neli_body.specs.laws.Headers.{last_place, number-back, place, signed-back, signed-place, value-back}
use Rattle.neli_consts_routing.specs.RtAddrFamily.{rt_addr_family_number, rt_addr_family_of, rt_addr_family_variants}
use Rattle.neli_consts_routing.specs.declared.addresses.RtAddrFamily.TheVariants as rt_addr_family
use Rattle.neli_consts_routing.specs.Rtn.{rtn_number, rtn_of, rtn_variants}
use Rattle.neli_consts_routing.specs.declared.routes.Rtn.TheVariants as rtn
use Rattle.neli_wire.specs.Numbers.{AreBytes}
use Rattle.neli_wire.specs.laws.Constants.{first_with-number}
use Rattle.neli_rtnl.specs.declared.ndmsg.NdmsgHeader.{NdmsgHeader}
use Rattle.neli_rtnl.specs.Ndmsg.{IsPlainNdmsg, ndmsg_bytes, ndmsg_header}

pub ndmsg-width : (h : NdmsgHeader) → length (ndmsg_bytes h) ≡ 12
ndmsg-width h = refl

pub ndmsg-reads_back : (h : NdmsgHeader) → IsPlainNdmsg h → ndmsg_header (ndmsg_bytes h) ≡ h
ndmsg-reads_back h is =
    rw (
      value-back 1 rt_addr_family_number rt_addr_family_of h.ndm_family _ is.ndm_family,
      number-back 1 h.pad1 _ is.pad1,
      number-back 2 h.pad2 _ is.pad2,
      signed-back h.ndm_index _ is.ndm_index,
      number-back 2 h.ndm_state.0 _ is.ndm_state,
      number-back 1 h.ndm_flags.0 _ is.ndm_flags,
      value-back 1 rtn_number rtn_of h.ndm_type [] is.ndm_type,
    ) refl

pub ndmsg-writes_back : (s : List ℕ) → length s ≡ 12 → AreBytes s → ndmsg_bytes (ndmsg_header s) ≡ s
ndmsg-writes_back s size small =
    place 1 0 11 s _ _ size small (first_with-number rt_addr_family_number rt_addr_family_variants
    rt_addr_family.UnrecognizedConst (λ n. refl) _)
    (place 1 1 10 s _ _ size small refl
    (place 2 2 8 s _ _ size small refl
    (place 4 4 4 s _ _ size small (signed-place 4 s small)
    (place 2 8 2 s _ _ size small refl
    (place 1 10 1 s _ _ size small refl
    (last_place 1 11 s _ size small (first_with-number rtn_number rtn_variants rtn.UnrecognizedConst
    (λ n. refl) _)))))))
