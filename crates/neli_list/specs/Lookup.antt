-- Finding attributes by their type, and reading their payloads.
use Rattle.std.specs.Prelude.{ℕ, ◌<◌, List, Bool, Option, Some, None, Result}
use Rattle.std.specs.Prelude.{Err, IsSomeAnd, bit_and, codes, find, length, nat_eq, option_map}
use Rattle.neli_wire.specs.declared.errors.DeError.{DeError}
use Rattle.neli_wire.specs.declared.errors.DeError.TheVariants.{Msg}
use Rattle.neli_wire.specs.Bytes.{Reading}
use Rattle.neli_wire.specs.laws.Elements.{elements}

-- the first attribute with this type
abbrev pub first_of_type : {I K : Type 0} → (I → K) → (K → K → Bool) → K → List I → Option I
first_of_type type_of same kind attrs = find (λ a. same (type_of a) kind) attrs

-- whether a type in a header has the number of this type, without the bits of the two flags
abbrev pub is_masked : {K : Type 0} → (K → ℕ) → K → K → Bool
is_masked number_of kind other = nat_eq (bit_and (number_of other) 16383) (number_of kind)

-- the first attribute whose type has the number of this type, without the bits of the two flags
abbrev pub first_masked : {I K : Type 0} → (I → K) → (K → ℕ) → K → List I → Option I
first_masked type_of number_of kind attrs = find (λ a. is_masked number_of kind (type_of a)) attrs

-- the payload of the first attribute with this type
abbrev pub payload_of_type : {I K : Type 0} → (I → K) → (K → K → Bool) → (I → List ℕ) → K → List I → Option (List ℕ)
payload_of_type type_of same bytes_of kind attrs = option_map bytes_of (first_of_type type_of same kind attrs)

-- the value read from the payload that was found; without one, a refusal with this text
abbrev pub read_or : {V : Type 0} → List ℕ → Option (List ℕ) → (List ℕ → Result V DeError) → Result V DeError
read_or text (Some payload) read = read payload
read_or text None read = Err (Msg text)

-- the value read from an attribute's payload
abbrev pub read_found : {V : Type 0} → Option (List ℕ) → (List ℕ → Result V DeError) → Result V DeError
read_found = read_or (codes "Failed to find specified attribute")

-- the attributes that an attribute's payload lists
abbrev pub list_found : {V : Type 0} → Option (List ℕ) → (List ℕ → Reading V) → Result (List V) DeError
list_found payload read = read_or (codes "Couldn't find specified attribute") payload (elements read)

-- a payload was found, and reading it takes memory
abbrev pub read_found_takes_memory : Option (List ℕ) → (List ℕ → Type 0) → Type 0
read_found_takes_memory = IsSomeAnd

-- a payload was found, and it is not empty
abbrev pub list_found_takes_memory : Option (List ℕ) → Type 0
list_found_takes_memory payload = IsSomeAnd payload (λ bytes. 0 < length bytes)
