-- A header is read back from its bytes.
use Rattle.std.proofs.Common.{◌≡◌, ℕ, List, ◌++◌, length, drop, refl, sym, ap, ◌∙◌, append_assoc, arith, length-append}
use Rattle.std.proofs.lemmas.List.{drop_at}
use Rattle.byteorder.specs.Endian.{little_bytes, little_number}
use Rattle.byteorder.specs.Numbers.{little_number-reads_back}
use Rattle.neli_wire.specs.Frames.{number_in}
use Rattle.neli_wire.specs.laws.Numbers.{count-unsigned}
use Rattle.neli_reader.specs.Headers.{Header, header_in}
use Rattle.neli_lent.specs.Written.{HeaderFits}

abbrev same : ℕ → ℕ
same n = n

abbrev pub fields : Header ℕ → List ℕ
fields h = little_bytes 4 h.len ++ little_bytes 2 h.message_type ++ little_bytes 2 h.flags.0
    ++ little_bytes 4 h.sequence_number ++ little_bytes 4 h.port

-- a header is read from its bytes, whatever follows them
pub header-read : (h : Header ℕ) (s rest : List ℕ) → HeaderFits h → s ≡ fields h ++ rest → header_in same s ≡ h
header-read h s rest fits is =
    let a : List ℕ = little_bytes 4 h.len in
    let b : List ℕ = little_bytes 2 h.message_type in
    let c : List ℕ = little_bytes 2 h.flags.0 in
    let d : List ℕ = little_bytes 4 h.sequence_number in
    let e : List ℕ = little_bytes 4 h.port in
    let la : length a ≡ 4 = count-unsigned 4 h.len in
    let lb : length b ≡ 2 = count-unsigned 2 h.message_type in
    let lc : length c ≡ 2 = count-unsigned 2 h.flags.0 in
    let ld : length d ≡ 4 = count-unsigned 4 h.sequence_number in
    let from0 : s ≡ a ++ (b ++ (c ++ (d ++ (e ++ rest)))) = is in
    let from4 : drop 4 s ≡ b ++ (c ++ (d ++ (e ++ rest))) = ap (drop 4) from0
    ∙ drop_at a (b ++ (c ++ (d ++ (e ++ rest)))) 4 la in
    let from6 : drop 6 s ≡ c ++ (d ++ (e ++ rest)) = ap (drop 6) (from0
    ∙ sym (append_assoc a b (c ++ (d ++ (e ++ rest)))))
    ∙ drop_at (a ++ b) (c ++ (d ++ (e ++ rest))) 6 (omega (arith, length-append a b, la, lb)) in
    let front8 : s ≡ (a ++ (b ++ c)) ++ (d ++ (e ++ rest)) = is in
    let from8 : drop 8 s ≡ d ++ (e ++ rest) = ap (drop 8) front8
    ∙ drop_at (a ++ (b ++ c)) (d ++ (e ++ rest)) 8
    (omega (arith, length-append a (b ++ c), length-append b c, la, lb, lc)) in
    let front12 : s ≡ (a ++ (b ++ (c ++ d))) ++ (e ++ rest) = is in
    let from12 : drop 12 s ≡ e ++ rest = ap (drop 12) front12
    ∙ drop_at (a ++ (b ++ (c ++ d))) (e ++ rest) 12
    (omega (arith, length-append a (b ++ (c ++ d)), length-append b (c ++ d), length-append c d, la, lb, lc, ld)) in
    let the_len : number_in 4 0 s ≡ h.len = ap (little_number 4) from0
    ∙ little_number-reads_back 4 h.len (b ++ (c ++ (d ++ (e ++ rest)))) fits.len in
    let the_type : number_in 2 4 s ≡ h.message_type = ap (little_number 2) from4
    ∙ little_number-reads_back 2 h.message_type (c ++ (d ++ (e ++ rest))) fits.message_type in
    let the_flags : number_in 2 6 s ≡ h.flags.0 = ap (little_number 2) from6
    ∙ little_number-reads_back 2 h.flags.0 (d ++ (e ++ rest)) fits.flags in
    let the_number : number_in 4 8 s ≡ h.sequence_number = ap (little_number 4) from8
    ∙ little_number-reads_back 4 h.sequence_number (e ++ rest) fits.sequence_number in
    let the_port : number_in 4 12 s ≡ h.port = ap (little_number 4) from12
    ∙ little_number-reads_back 4 h.port rest fits.port in
    rw (the_len, the_type, the_flags, the_number, the_port) refl
