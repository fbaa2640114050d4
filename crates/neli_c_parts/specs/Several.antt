-- Several messages or attributes from one call: those of single calls, one after the other.
use Rattle.std.specs.Prelude.{◌≡◌, ℕ, ℤ, nat_eq, if◌then◌else◌, List, [], ◌∷◌}
use Rattle.neli_c_parts.specs.declared.message.NeliWalk.{NeliWalk}
use Rattle.neli_c_parts.specs.declared.message.NeliMessage.{NeliMessage}
use Rattle.neli_c_parts.specs.declared.message.NeliAttribute.{NeliAttribute}
use Rattle.neli_c_parts.specs.Codes.{item, room}
use Rattle.neli_c_parts.specs.Walks.{GivesAttribute, GivesMessage, attribute_layout, bytes_left}
use Rattle.neli_c_parts.specs.Walks.{message_layout, walk_code}

-- a single call at the first walk, which returns `code_at`, returns that there is one, stores it, and leaves the second
abbrev pub StepOf : {A : Type 0} → (NeliWalk → ℤ) → (NeliWalk → NeliWalk → A → Type 0) → NeliWalk → NeliWalk → A
    → Type 0
StepOf code_at Gives w v a = (code_at w ≡ item) × Gives w v a

-- the code of a single call
abbrev pub message_code : List ℕ → NeliWalk → ℤ
message_code bytes w = walk_code message_layout (bytes_left bytes w)

abbrev pub attribute_code : List ℕ → NeliWalk → ℤ
attribute_code bytes w = walk_code attribute_layout (bytes_left bytes w)

-- and its result: a message, an attribute
abbrev pub MessageStep : List ℕ → NeliWalk → NeliWalk → NeliMessage → Type 0
MessageStep bytes = StepOf (message_code bytes) (GivesMessage bytes)

abbrev pub AttributeStep : List ℕ → NeliWalk → NeliWalk → NeliAttribute → Type 0
AttributeStep bytes = StepOf (attribute_code bytes) (GivesAttribute bytes)

-- single calls return these from the first walk on, one after the other, and leave the second walk
abbrev pub GivesEach : {A : Type 0} → (NeliWalk → NeliWalk → A → Type 0) → NeliWalk → NeliWalk → List A → Type 0
GivesEach Step w v [] = w ≡ v
GivesEach Step w v (a ∷ later) = (u : NeliWalk) × Step w u a × GivesEach Step u v later

-- the code of a call with room for n, if a single call returns `code`
abbrev pub several_code : ℕ → ℤ → ℤ
several_code n code = if nat_eq n 0 then room else code
