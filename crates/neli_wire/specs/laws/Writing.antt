-- Laws of wire bytes of several parts.
use Rattle.std.proofs.Common.{◌≡◌, ◌≢◌, ℕ, ◌-◌, List, ◌++◌, length, Ok}
use Rattle.std.proofs.Common.{Err, refl, sym, ap, append_assoc, arith, length-append, Result, subst}
use Rattle.std.specs.Prelude.{IfErr, IsErrAnd}
use Rattle.neli_wire.specs.declared.errors.SerError.{SerError}
use Rattle.neli_wire.specs.declared.errors.SerError.TheVariants.{Msg, Io, Utf8, Memory}
use Rattle.neli_wire.specs.Writing.{Wire, ◌+++◌, append_wire, pad_wire, zeros_for, RefusesWrite, TakesRoom}

-- a text after what was appended
abbrev pub wire_after : Wire → Wire → Wire
wire_after (Ok so_far) wire = append_wire so_far wire
wire_after (Err e) wire = Err e

-- zeros after what was appended to n bytes
abbrev pub zeros_after : ℕ → Wire → Wire
zeros_after n (Ok so_far) = Ok (so_far ++ zeros_for (length so_far - n))
zeros_after n (Err e) = Err e

abbrev written : List ℕ → Wire
written bytes = Ok bytes

-- the length of bytes that are known
pub written-length : (known bytes : List ℕ) (n : ℕ) → length known ≡ n → written known ≡ Ok bytes → length bytes ≡ n
written-length known bytes n len e = let same : known ≡ bytes = cc in rw (← same) len

pub own-length : (known bytes : List ℕ) → written known ≡ Ok bytes → length bytes ≡ length known
own-length known bytes e = written-length known bytes (length known) refl e

pub written-no_memory : (known : List ℕ) → written known ≢ Err Memory
written-no_memory known e = cc

pub append_wire-err : (old : List ℕ) (w : Wire) (e : SerError) → append_wire old w ≡ Err e → w ≡ Err e
append_wire-err old (Ok x) e h = absurd cc
append_wire-err old (Err d) e h = h

-- where the first part takes memory, the whole does
room_first : (a b : Wire) → TakesRoom a → TakesRoom (a +++ b)
room_first (Ok x) (Ok y) h = omega (arith, length-append x y)
room_first (Ok x) (Err d) h = tt
room_first (Err d) b h = tt

-- a refusal of the first part is that of the whole
pub refused_part_first : (a b : Wire) (e : SerError) → RefusesWrite a e → RefusesWrite (a +++ b) e
refused_part_first a b (Msg m) h = rw h refl
refused_part_first a b (Io k) h = rw h refl
refused_part_first a b (Utf8 u) h = rw h refl
refused_part_first a b Memory h = room_first a b h

-- the second part goes after the first
pub append_wire_both : (old : List ℕ) (a b : Wire) → append_wire old (a +++ b) ≡ wire_after (append_wire old a) b
append_wire_both old (Ok x) (Ok y) = ap written (sym (append_assoc old x y))
append_wire_both old (Ok x) (Err d) = refl
append_wire_both old (Err d) b = refl

-- the padding goes after the text
pub append_wire_zeros : (old : List ℕ) (a : Wire) → append_wire old (pad_wire a)
    ≡ zeros_after (length old) (append_wire old a)
append_wire_zeros old (Ok x) =
    let len : length (old ++ x) - length old ≡ length x = omega (arith, length-append old x) in
    rw len (ap written (sym (append_assoc old x (zeros_for (length x)))))
append_wire_zeros old (Err d) = refl

-- an error that a call passes on refuses the bytes that it refused there
pub refuses_by : {A : Type 0} (r : Result A SerError) (w : Wire) (e : SerError) → IsErrAnd r (λ d. d ≡ e)
    → RefusesWrite w e → IfErr r (RefusesWrite w)
refuses_by (Ok x) w e is h = tt
refuses_by (Err d) w e is h = subst (RefusesWrite w) (sym is) h
