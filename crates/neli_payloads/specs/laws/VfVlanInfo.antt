-- Laws of the fields of VLANs of virtual functions with their protocol.
use Rattle.std.proofs.Common.{◌≡◌, ℕ, ◌+◌, List, [], ◌++◌, length, take, drop, refl, sym, ap, ◌∙◌, arith, length-drop}
use Rattle.std.proofs.lemmas.List.{drop-drop, get_or-drop, take-append-drop}
use Rattle.byteorder.specs.Numbers.{big_number-reads_back}
use Rattle.neli_body.specs.laws.Headers.{last_place, number-back, place}
use Rattle.neli_wire.specs.Numbers.{AreBytes, FitsBytes, big_bytes, big_number}
use Rattle.neli_wire.specs.laws.Numbers.{big_bytes-number}
use Rattle.neli_payloads.specs.declared.vf_vlan_info.VfVlanInfo.{VfVlanInfo}
use Rattle.neli_payloads.specs.VfVlanInfo.{IsPlainVfVlanInfo, vf_vlan_info_bytes, vf_vlan_info_header}

-- a number with its highest byte first is read back, whatever follows it
big-back : (n x : ℕ) (rest : List ℕ) → FitsBytes n x → big_number n (big_bytes n x ++ rest) ≡ x
big-back n x rest fits = big_number-reads_back n x rest fits

-- such a number at place i, and then what follows its n bytes; m more bytes follow it
big-place : (n i m : ℕ) (s rest : List ℕ) (x : ℕ) → length s ≡ i + n + m → AreBytes s → x ≡ big_number n (drop i s)
    → rest ≡ drop (i + n) s → big_bytes n x ++ rest ≡ drop i s
big-place n i m s rest x size small number after =
    ap (λ (y : ℕ). big_bytes n y ++ rest) number
    ∙ ap (λ (front : List ℕ). front ++ rest) (big_bytes-number n (drop i s) (omega (arith, length-drop i s))
    (λ k. rw (get_or-drop i s k 0) (small (i + k))))
    ∙ ap (λ (back : List ℕ). take n (drop i s) ++ back) (after ∙ sym (drop-drop n i s))
    ∙ take-append-drop n (drop i s)

pub vf_vlan_info-width : (v : VfVlanInfo) → length (vf_vlan_info_bytes v) ≡ 16
vf_vlan_info-width v = refl

pub vf_vlan_info-reads_back : (v : VfVlanInfo) → IsPlainVfVlanInfo v → vf_vlan_info_header (vf_vlan_info_bytes v) ≡ v
vf_vlan_info-reads_back v is =
    rw (
      number-back 4 v.vf _ is.vf,
      number-back 4 v.vlan _ is.vlan,
      number-back 4 v.qos _ is.qos,
      big-back 2 v.vlan_proto _ is.vlan_proto,
      number-back 2 v.padding [] is.padding,
    ) refl

pub vf_vlan_info-writes_back : (s : List ℕ) → length s ≡ 16 → AreBytes s
    → vf_vlan_info_bytes (vf_vlan_info_header s) ≡ s
vf_vlan_info-writes_back s size small =
    place 4 0 12 s _ _ size small refl
    (place 4 4 8 s _ _ size small refl
    (place 4 8 4 s _ _ size small refl
    (big-place 2 12 2 s _ _ size small refl
    (last_place 2 14 s _ size small refl))))
