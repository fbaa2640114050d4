-- Attributes that are looked up and read: nothing where one is missing, and a refusal where one can't be read.
use Rattle.std.specs.Prelude.{ℕ, ◌-◌, Bool, List, [], ◌∷◌, find, length, slice_get, unwrap_or}
use Rattle.std.specs.Prelude.{Option, Some, None, Result, Ok, Err, IsOkAnd, IsSomeAnd}
use Rattle.std.specs.Option.{option_map}
use Rattle.neli_wire.specs.Bytes.{Reading}
use Rattle.neli_wire.specs.declared.errors.DeError.{DeError}
use Rattle.neli_wire.specs.Reading.{◌>>=◌, value_at}
use Rattle.neli_attr.specs.Attributes.{Attr}
use Rattle.neli_attr.specs.Lookup.{is_masked}
use Rattle.neli_reader.specs.Cuts.{Cut}
use Rattle.neli_lent.specs.Attributes.{attributes_at}
use Rattle.neli_lent.specs.Walks.{find_in}
use Rattle.neli_short.specs.declared.error.AttrError.{AttrError}
use Rattle.neli_short.specs.Errors.{refusal_of}

-- what is looked up or read of an attribute: nothing where it is missing
abbrev pub Found : Type 0 → Type 0
Found A = Result (Option A) AttrError

-- what a look-up of the attribute of this number finds, and what is done with that; a refusal names the attribute
abbrev pub in_found : {A B : Type 0} → ℕ → (A → Found B) → Result (Option A) DeError → Found B
in_found n next (Ok (Some a)) = next a
in_found n next (Ok None) = Ok None
in_found n next (Err e) = Err (refusal_of n e)

-- what was found, seen in another way
abbrev pub map_there : {A B : Type 0} → (A → B) → Found A → Found B
map_there f (Ok (Some a)) = Ok (Some (f a))
map_there f (Ok None) = Ok None
map_there f (Err e) = Err e

-- the payload of what a look-up among lent attributes finds, by the number of the attribute
abbrev pub lent_payload : {K : Type 0} → ℕ → (K → Bool) → Cut (Attr K (List ℕ)) → Found (List ℕ)
lent_payload n selects attrs =
    in_found n (λ a. Ok (Some a.1)) (find_in (λ a. selects a.0.kind) attrs)

-- ---- reading what was found

-- the value of a reading, whatever follows it
abbrev pub value_of : {V : Type 0} → Reading V → Result V DeError
value_of reading = reading >>= λ p. Ok p.0

-- the value that bytes begin with
abbrev pub front : {V : Type 0} → (List ℕ → Reading V) → List ℕ → Result V DeError
front read s = value_of (read s)

-- the constant that bytes begin with: the value of a number of so many bytes
abbrev pub constant_front : {N C : Type 0} → ℕ → (List ℕ → N) → (N → C) → List ℕ → Result C DeError
constant_front count number_of means = front (value_at count (λ bytes. means (number_of bytes)))

-- a reading of the attribute of this number
abbrev pub read_as : {V : Type 0} → ℕ → Result V DeError → Found V
read_as n (Ok v) = Ok (Some v)
read_as n (Err e) = Err (refusal_of n e)

-- what is read of the payload that was found
abbrev pub read_found : {V : Type 0} → ℕ → (List ℕ → Result V DeError) → Found (List ℕ) → Found V
read_found n read (Ok (Some payload)) = read_as n (read payload)
read_found n read (Ok None) = Ok None
read_found n read (Err e) = Err e

-- a payload was found, and reading it takes memory
abbrev pub read_takes_memory : (List ℕ → Type 0) → Found (List ℕ) → Type 0
read_takes_memory takes found = IsOkAnd found (λ payload. IsSomeAnd payload takes)

-- ---- paths

-- what is found in what was found
abbrev pub then_found : {A B : Type 0} → (A → Found B) → Found A → Found B
then_found next (Ok (Some a)) = next a
then_found next (Ok None) = Ok None
then_found next (Err e) = Err e

-- the payload of the first attribute with this number, whatever the two flags are, in the list that a payload is
abbrev pub nested : ℕ → List ℕ → Found (List ℕ)
nested n payload = lent_payload n (is_masked (λ k. k) n)
    (attributes_at (λ k. k) (record { before = []; rest = payload }))

-- the payload at the end of a path from a payload
abbrev pub below : List ℕ → List ℕ → Found (List ℕ)
below [] payload = Ok (Some payload)
below (n ∷ path) payload = then_found (below path) (nested n payload)

-- the same from lent attributes with types of any kind; no path leads nowhere
abbrev pub at_lent_path : {K : Type 0} → (K → ℕ) → List ℕ → Cut (Attr K (List ℕ)) → Found (List ℕ)
at_lent_path number_of [] attrs = Ok None
at_lent_path number_of (n ∷ path) attrs =
    then_found (below path) (lent_payload n (λ kind. is_masked (λ k. k) n (number_of kind)) attrs)

-- the payload of the first of owned attributes with this number, whatever the two flags are
abbrev pub payload_numbered : {I K : Type 0} → (I → K) → (K → ℕ) → (I → List ℕ) → ℕ → List I
    → Option (List ℕ)
payload_numbered type_of number_of bytes_of n attrs =
    option_map bytes_of (find (λ a. is_masked (λ k. k) n (number_of (type_of a))) attrs)

-- the same from owned attributes, by their types and payloads
abbrev pub at_path : {I K : Type 0} → (I → K) → (K → ℕ) → (I → List ℕ) → List ℕ → List I
    → Found (List ℕ)
at_path type_of number_of bytes_of [] attrs = Ok None
at_path type_of number_of bytes_of (n ∷ path) attrs =
    then_found (below path) (Ok (payload_numbered type_of number_of bytes_of n attrs))

-- the number with which a path ends; 0 of no path
abbrev pub last_number : List ℕ → ℕ
last_number path = unwrap_or (slice_get path (length path - 1)) 0
