-- What types state about their bytes, by the values: laws that their implementations meet.
use Rattle.std.specs.Prelude.{◌≡◌, ℕ, List, Ok, length}
use Rattle.neli_wire.specs.Bytes.{Reading}
use Rattle.neli_wire.specs.Reading.{value_at}
use Rattle.neli_wire.specs.Writing.{Wire}

-- both give the same for each value
abbrev pub AreSame : {A B : Type 0} → (A → B) → (A → B) → Type 0
AreSame {A} f g = (x : A) → f x ≡ g x

-- the first holds only where the second does
abbrev pub OnlyWhere : {A : Type 0} → (A → Type 0) → (A → Type 0) → Type 0
OnlyWhere {A} P Q = (x : A) → P x → Q x

-- where `gives` relates two values, so does `is`
abbrev pub GivesOnly : {A B : Type 0} → (A → B → Type 0) → (A → B → Type 0) → Type 0
GivesOnly {A} {B} gives is = (a : A) (b : B) → gives a b → is a b

-- values are written as these bytes, and their unpadded length is that of these bytes
abbrev pub AreWrittenAs : {T : Type 0} → (T → Wire) → (T → ℕ) → (T → List ℕ) → Type 0
AreWrittenAs {T} wire unpadded bytes_of = (v : T) → (wire v ≡ Ok (bytes_of v)) × (unpadded v ≡ length (bytes_of v))

-- the next n bytes are read by their meaning, without memory
abbrev pub AreReadAs : {V : Type 0} → (List ℕ → Reading V) → (List ℕ → Type 0) → ℕ → (List ℕ → V) → Type 0
AreReadAs read takes_memory n value = (s : List ℕ) → (read s ≡ value_at n value s) × (takes_memory s → ⊥)

-- values are the numbers of n bytes: they are written as these bytes, and read as the numbers that these spell
abbrev pub AreNumbers : {N : Type 0} → (N → Wire) → (List ℕ → Reading N) → ℕ → (N → List ℕ) → (List ℕ → N) → Type 0
AreNumbers {N} wire read n bytes_of number_of =
    ((v : N) → wire v ≡ Ok (bytes_of v)) × ((s : List ℕ) → read s ≡ value_at n number_of s)
