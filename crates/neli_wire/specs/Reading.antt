-- Reading: the value of a byte list, or why it has none.
use Rattle.std.specs.Prelude.{◌≡◌, ◌≤◌, ◌<◌, Bool, true, false, ℕ, List, [], ◌∷◌}
use Rattle.std.specs.Prelude.{◌++◌, length, take, drop, Result, Ok, Err, nat_lt, if◌then◌else◌}
use Rattle.byteorder.specs.Endian.{little_number}
use Rattle.std.specs.declared.io.ErrorKind.TheVariants.{UnexpectedEof}
use Rattle.neli_wire.specs.Bytes.{Reading, bytes_at, short}
use Rattle.neli_wire.specs.Place.{Place, place_after}
use Rattle.neli_wire.specs.Sizes.{gap}
use Rattle.neli_wire.specs.declared.errors.DeError.{DeError}
use Rattle.neli_wire.specs.declared.errors.DeError.TheVariants.{Io, InvalidInput}

-- the next step after a value was read; a refusal stays
infixl 10 ◌>>=◌
abbrev pub ◌>>=◌ : {A B : Type 0} → Result A DeError → (A → Result B DeError) → Result B DeError
(Ok x) >>= f = f x
(Err e) >>= f = Err e

-- one reading after the other
abbrev pub and_then : {A B : Type 0} → (List ℕ → Reading A) → (A → List ℕ → Reading B) → List ℕ → Reading B
and_then read next s = read s >>= λ p. next p.0 p.1

-- ---- parts of readings

-- the value that the next n bytes spell
abbrev pub value_at : {V : Type 0} → ℕ → (List ℕ → V) → List ℕ → Reading V
value_at n value = and_then (bytes_at n) (λ bytes rest. Ok (value bytes, rest))

-- the number in the next n bytes, the lowest first
abbrev pub number_at : ℕ → List ℕ → Reading ℕ
number_at n = value_at n (little_number n)

-- a number of two bytes, and its meaning
abbrev pub number_as : {V : Type 0} → (ℕ → V) → List ℕ → Reading V
number_as of = value_at 2 (λ bytes. of (little_number 2 bytes))

-- the reading of exactly the next n bytes
abbrev pub exact_reading : {V : Type 0} → (List ℕ → Result V DeError) → ℕ → List ℕ → Reading V
exact_reading read n s =
    if nat_lt (length s) n then Err (InvalidInput n) else (read (take n s) >>= λ v. Ok (v, drop n s))

-- ---- refusals

-- there are n bytes or more, and reading the first n takes memory
abbrev pub exact_takes_memory : (List ℕ → Type 0) → ℕ → List ℕ → Type 0
exact_takes_memory takes_memory n s = (n ≤ length s) × takes_memory (take n s)

-- a part was read, and the statement about it holds
abbrev pub IfRead : {A : Type 0} → Reading A → (A → List ℕ → Type 0) → Type 0
IfRead (Ok p) P = P p.0 p.1
IfRead (Err e) P = ⊥

-- the refusal says that bytes are missing
abbrev pub is_short : DeError → Bool
is_short (Io UnexpectedEof) = true
is_short e = false

-- the place is now at the next multiple of four, over bytes of any value
abbrev pub StripsTo : Place → Place → Type 0
StripsTo old new = (gap (length old.before) ≤ length old.rest) × (new ≡ place_after old (gap (length old.before)))

-- the bytes end before the next multiple of four, and the refusal says so
abbrev pub LacksPadding : Place → DeError → Type 0
LacksPadding old e = (e ≡ short) × (length old.rest < gap (length old.before))

-- a refusal as a read with input n returns it: there missing bytes are an invalid input
abbrev pub refusal_within : ℕ → DeError → DeError
refusal_within n e = if is_short e then InvalidInput n else e

-- a refusal as it is returned
abbrev pub map_refusal : {A : Type 0} → (DeError → DeError) → Result A DeError → Result A DeError
map_refusal f (Ok x) = Ok x
map_refusal f (Err e) = Err (f e)

-- ---- lists of values

-- the bytes spell these values, one after the other, each of at least a byte
abbrev pub AreElements : {V : Type 0} → (List ℕ → Reading V) → List ℕ → List V → Type 0
AreElements read s [] = s ≡ []
AreElements read s (v ∷ vs) =
    (own : List ℕ) × (rest : List ℕ) × (s ≡ own ++ rest) × (0 < length own)
    × ((t : List ℕ) → read (own ++ t) ≡ Ok (v, t))
    × AreElements read rest vs

-- ---- laws that a reading meets

-- what is read depends only on its own bytes, whatever follows
abbrev pub IsLocal : {V : Type 0} → (List ℕ → Reading V) → Type 0
IsLocal {V} read =
    (s r : List ℕ) (v : V) → read s ≡ Ok (v, r)
    → (own : List ℕ) × (s ≡ own ++ r) × ((t : List ℕ) → read (own ++ t) ≡ Ok (v, t))
