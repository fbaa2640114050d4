-- The request for a family is the frame that the specs write out.
use Rattle.std.proofs.Common.{◌≡◌, ℕ, ◌+◌, ◌*◌, ◌/◌, ◌≤◌, Bool, true, false, List, [], ◌∷◌, ◌++◌, length, Ok, refl, ap}
use Rattle.std.proofs.Common.{arith, length-append}
use Rattle.std.specs.Prelude.{nat_lt, replicate}
use Rattle.std.proofs.lemmas.Bool.{le-ltb}
use Rattle.std.proofs.lemmas.List.{append-nil, length-replicate}
use Rattle.neli_wire.specs.Sizes.{align, gap}
use Rattle.neli_wire.specs.Writing.{zeros_for}
use Rattle.neli_consts.specs.CtrlAttr.{ctrl_attr_number}
use Rattle.neli_consts.specs.declared.genl.CtrlAttr.{CtrlAttr}
use Rattle.neli_consts.specs.declared.nlm_f.NlmF.{NlmF}
use Rattle.neli_genl.specs.Genlmsghdr.{Attrs, attrs_size, attrs_wire}
use Rattle.neli_reader.specs.Headers.{flags_of}
use Rattle.neli_router.specs.Requests.{family_frame, family_request, family_sent, getfamily, getfamily_frame}
use Rattle.neli_router.specs.Requests.{name_attribute, name_bytes, name_text, sent_to_controller}
use Rattle.neli_router.specs.Sends.{with_request}

-- a multiple of four needs no zeros
no-zeros : (bytes : List ℕ) (k : ℕ) → length bytes ≡ k * 4 → zeros_for (length bytes) ≡ []
no-zeros bytes k whole =
    let none : gap (length bytes) ≡ 0 = omega (arith, whole) in
    ap (λ (n : ℕ). replicate n 0) none

-- a request with these attributes, which are written as these bytes
sent-frame : (port number : ℕ) (flags : NlmF) (attrs : Attrs CtrlAttr) (bytes : List ℕ) (k : ℕ)
    → attrs_wire ctrl_attr_number attrs ≡ Ok bytes → attrs_size attrs ≡ length bytes → length bytes ≡ k * 4
    → length bytes ≤ 65536 → sent_to_controller port number false flags (getfamily attrs)
    ≡ Ok (getfamily_frame (with_request flags).0 port number bytes)
sent-frame port number flags attrs bytes k wire size whole fits =
    let frame : List ℕ = getfamily_frame (with_request flags).0 port number bytes in
    let stated : align (16 + (4 + 0 + attrs_size attrs)) ≡ 20 + length bytes = omega (arith, whole, size) in
    let small : nat_lt 4294967295 (align (16 + (4 + 0 + attrs_size attrs))) ≡ false =
    le-ltb 4294967295 (align (16 + (4 + 0 + attrs_size attrs))) (omega (arith, stated)) in
    let none : zeros_for (length frame) ≡ [] = no-zeros frame (k + 5) (omega (arith, whole)) in
    rw (small, wire, none, append-nil bytes, stated) refl

-- the attribute is written as the bytes that the specs write out
name-wire : (name : List ℕ) → attrs_wire ctrl_attr_number (name_attribute name ∷ []) ≡ Ok (name_bytes name)
name-wire name =
    let long : 4 + length (name ++ 0 ∷ []) ≡ 5 + length name = omega (arith, length-append name (0 ∷ [])) in
    rw (append-nil (name ++ 0 ∷ [] ++ zeros_for (length (name_text name))), long) refl

-- their length
length-name : (name : List ℕ) → length (name_bytes name) ≡ align (5 + length name)
length-name name =
    let long : length (name_text name) ≡ 5 + length name = omega (arith, length-append name (0 ∷ [])) in
    omega (
      arith,
      long,
      length-append (name_text name) (zeros_for (length (name_text name))),
      length-replicate {A = ℕ} (gap (length (name_text name))) 0,
    )

family-frame : (port number : ℕ) (name : List ℕ) → length name ≤ 65530
    → sent_to_controller port number false (flags_of 4) (family_request name) ≡ Ok (family_frame port number name)
family-frame port number name fits =
    let long = length-name name in
    sent-frame port number (flags_of 4) (name_attribute name ∷ []) (name_bytes name) ((8 + length name) / 4)
    (name-wire name)
    (omega (arith, long, length-append name (0 ∷ []))) (omega (arith, long)) (omega (arith, long))

-- the specs' frame is the sent one, if the name fits
pub family_sent-body : (port number : ℕ) (in_use : Bool) (name : List ℕ) → length name ≤ 65530
    → family_sent port number in_use name ≡ sent_to_controller port number in_use (flags_of 4) (family_request name)
family_sent-body port number true name fits = refl
family_sent-body port number false name fits = rw (
  le-ltb 65530 (length name) fits,
  family-frame port number name fits,
) refl
