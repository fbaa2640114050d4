-- Attributes that are made of a type and a payload, and lists that grow by them.
use Rattle.std.specs.Prelude.{◌≡◌, ℕ, Bool, false, List, [], ◌∷◌, ◌++◌, Result, Ok, Err, ◌⊎◌}
use Rattle.neli_wire.specs.declared.errors.SerError.{SerError}
use Rattle.neli_wire.specs.Refusals.{IsRefusal, ser_ran_out}
use Rattle.neli_wire.specs.Writing.{Wire, wire_all}
use Rattle.neli_attr.specs.Attributes.{attribute_payload}
use Rattle.neli_attr.specs.AttrType.{AttrType}

-- the type field of a generic attribute with this type
abbrev pub field : {T : Type 0} → Bool → T → AttrType T
field is_nested kind = record { nla_nested = is_nested; nla_network_order = false; nla_type = kind }

-- the attribute of these bytes, which leave room for its header
abbrev pub IsMade : {A : Type 0} → (List ℕ → A) → Wire → A → Type 0
IsMade made wire a = (bytes : List ℕ) × (attribute_payload wire ≡ Ok bytes) × (a ≡ made bytes)

-- e is why none is made: there are no such bytes, or memory ran out
abbrev pub RefusesMade : Wire → SerError → Type 0
RefusesMade wire = IsRefusal ser_ran_out (attribute_payload wire) (Unit {0})

-- the list with that attribute at its end
abbrev pub IsPut : {A : Type 0} → (List ℕ → A) → Wire → List A → List A → Type 0
IsPut made wire old new =
    (bytes : List ℕ) × (attribute_payload wire ≡ Ok bytes) × (new ≡ old ++ made bytes ∷ [])

-- what a call makes of a list, from nothing on: what it returns, and the list
abbrev pub Filling : Type 0 → Type 0 → Type 1
Filling B E = Result (Unit {0}) E → List B → Type 0

-- the list with the attribute of what was filled at its end
abbrev pub IsFilled : {A B E : Type 0} → Filling B E → (List ℕ → A) → (B → Wire) → List A → List A
    → Type 0
IsFilled {B = B} fills made wire old new =
    (attrs : List B) × fills (Ok tt) attrs × IsPut made (wire_all wire attrs) old new

-- e is why nothing is put: the filling was refused, or no attribute is made of what was filled, and e is made of that
abbrev pub RefusesFilled : {B E : Type 0} → Filling B E → (B → Wire) → (SerError → E → Type 0) → E
    → Type 0
RefusesFilled {B} fills wire becomes e = (attrs : List B)
    × (fills (Err e) attrs
    ⊎ (fills (Ok tt) attrs × ((cause : SerError) × RefusesMade (wire_all wire attrs) cause
    × becomes cause e)))
