-- Laws of the fields of queueing disciplines.
use Rattle.std.proofs.Common.{◌≡◌, ℕ, List, [], length, refl}
use Rattle.neli_body.specs.laws.Headers.{last_place, number-back, place, signed-back, signed-place}
use Rattle.neli_wire.specs.Numbers.{AreBytes}
use Rattle.neli_rtnl.specs.declared.tcmsg.TcmsgHeader.{TcmsgHeader}
use Rattle.neli_rtnl.specs.Tcmsg.{IsPlainTcmsg, tcmsg_bytes, tcmsg_header}

pub tcmsg-width : (h : TcmsgHeader) → length (tcmsg_bytes h) ≡ 20
tcmsg-width h = refl

pub tcmsg-reads_back : (h : TcmsgHeader) → IsPlainTcmsg h → tcmsg_header (tcmsg_bytes h) ≡ h
tcmsg-reads_back h is =
    rw (
      number-back 1 h.tcm_family _ is.tcm_family,
      number-back 1 h.padding_char _ is.padding_char,
      number-back 2 h.padding_short _ is.padding_short,
      signed-back h.tcm_ifindex _ is.tcm_ifindex,
      number-back 4 h.tcm_handle _ is.tcm_handle,
      number-back 4 h.tcm_parent _ is.tcm_parent,
      number-back 4 h.tcm_info [] is.tcm_info,
    ) refl

pub tcmsg-writes_back : (s : List ℕ) → length s ≡ 20 → AreBytes s → tcmsg_bytes (tcmsg_header s) ≡ s
tcmsg-writes_back s size small =
    place 1 0 19 s _ _ size small refl
    (place 1 1 18 s _ _ size small refl
    (place 2 2 16 s _ _ size small refl
    (place 4 4 12 s _ _ size small (signed-place 4 s small)
    (place 4 8 8 s _ _ size small refl
    (place 4 12 4 s _ _ size small refl
    (last_place 4 16 s _ size small refl))))))
