-- Builders: the value that they make of the given fields, or why they make none.
use Rattle.std.specs.Prelude.{◌≡◌, ℕ, ◌+◌, List, codes, length, Option}
use Rattle.std.specs.Prelude.{Some, None, Result, Ok, Err, nat_lt, if◌then◌else◌}
use Rattle.neli_wire.specs.Messages.{uninitialized}
use Rattle.neli_wire.specs.Writing.{Wire}
use Rattle.neli_wire.specs.declared.errors.SerError.{SerError}
use Rattle.neli_wire.specs.declared.errors.SerError.TheVariants as ser
use Rattle.neli_attr_parts.specs.declared.builders.BuildError.{BuildError}
use Rattle.neli_attr_parts.specs.declared.builders.BuildError.TheVariants.{UninitializedField, ValidationError, Memory}

-- the text that an error prints
abbrev pub error_text : {of : ℕ} → BuildError of → List ℕ
error_text (UninitializedField name) = uninitialized name.now
error_text (ValidationError text) = text.now
error_text Memory = codes "Out of memory"

-- the text of an error, as another error's message; none where memory ran out
abbrev pub message_in : {of : ℕ} → BuildError of → Option (List ℕ)
message_in (UninitializedField name) = Some (uninitialized name.now)
message_in (ValidationError text) = Some text.now
message_in Memory = None

-- why no value is made of the fields: one is missing, or the value that they would make is not allowed
pub data Fault : Type 0 where
  Missing : List ℕ → Fault
  Invalid : List ℕ → Fault

-- the value made of the fields, or why there is none
abbrev pub Outcome : Type 0 → Type 0
Outcome A = Result A Fault

-- a field that was given goes on; one that was not is named
abbrev pub require_field : {A B : Type 0} → List ℕ → Option A → (A → Outcome B) → Outcome B
require_field name (Some x) next = next x
require_field name None next = Err (Missing name)

-- the next step after a value was made; a fault stays
infixl 10 ◌>>>◌
abbrev pub ◌>>>◌ : {A B : Type 0} → Outcome A → (A → Outcome B) → Outcome B
(Ok x) >>> next = next x
(Err fault) >>> next = Err fault

-- the bytes of a payload that leaves room for a header in a length of 16 bits
abbrev pub payload_in : ℕ → Wire → Outcome (List ℕ)
payload_in header (Ok bytes) = if nat_lt 65535 (header + length bytes)
    then Err (Invalid (codes "Length does not fit its field")) else Ok bytes
payload_in header (Err e) = Err (Invalid (codes "Could not convert payload to binary representation"))

-- all fields were given
abbrev pub AreGiven : {A : Type 0} → Outcome A → Type 0
AreGiven (Err (Missing name)) = ⊥
AreGiven outcome = Unit {0}

-- e is why no value is made; or memory ran out, which happens only once all fields were given
abbrev pub IsWhyNot : {A : Type 0} {of : ℕ} → Outcome A → BuildError of → Type 0
IsWhyNot outcome (UninitializedField name) = outcome ≡ Err (Missing name.now)
IsWhyNot outcome (ValidationError text) = outcome ≡ Err (Invalid text.now)
IsWhyNot outcome Memory = AreGiven outcome

-- ---- errors by their causes

-- the field of this name is missing
abbrev pub IsMissing : {of : ℕ} → List ℕ → BuildError of → Type 0
IsMissing field (UninitializedField name) = name.now ≡ field
IsMissing field e = ⊥

-- memory ran out
abbrev pub IsMemory : {of : ℕ} → BuildError of → Type 0
IsMemory Memory = Unit {0}
IsMemory e = ⊥

-- there is no value, for the reason in these words
abbrev pub IsInvalid : {of : ℕ} → List ℕ → BuildError of → Type 0
IsInvalid words (ValidationError text) = text.now ≡ words
IsInvalid words e = ⊥

-- a payload's refusal, passed on
abbrev pub IsRefusedPayload : {of : ℕ} → SerError → BuildError of → Type 0
IsRefusedPayload ser.Memory e = IsMemory e
IsRefusedPayload refusal e = IsInvalid (codes "Could not convert payload to binary representation") e
