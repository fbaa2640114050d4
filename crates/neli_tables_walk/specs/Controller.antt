-- What a message of the controller of generic netlink says of a family.
use Rattle.std.specs.Prelude.{ℕ, Bool, false, ◌&&◌, ◌==◌, if◌then◌else◌, List, length, drop, find}
use Rattle.std.specs.Prelude.{Option, Some, None}
use Rattle.std.specs.Borrow.{Bor}
use Rattle.std.specs.Option.{option_map}
use Rattle.byteorder.specs.Endian.{little_number}
use Rattle.neli_tables.specs.Families.{Lines, generic_in, learnt_as}
use Rattle.neli_tables_walk.specs.Elements.{Lent}
use Rattle.neli_tables_walk.specs.Shapes.{attributes_of, has_number}
use Rattle.neli_tables_walk.specs.Breaches.{without_zero}
use Rattle.neli_tables_walk.specs.declared.generic.GenericHeader.{GenericHeader}
use Rattle.neli_tables_walk.specs.declared.head.Head.{Head}
use Rattle.neli_tables_walk.specs.Bodies.{generic_header}

-- a number and a name that is lent
abbrev pub pair_view : ℕ × Bor (List ℕ) → ℕ × List ℕ
pair_view pair = (pair.0, pair.1.now)

-- the payload of the first attribute with this number
abbrev pub first_payload : ℕ → List ℕ → Option (List ℕ)
first_payload number bytes =
    option_map (λ (a : Lent). a.1) (find (has_number number) (attributes_of bytes).0)

-- the number that two bytes are
abbrev pub id_in : List ℕ → Option ℕ
id_in bytes = if length bytes == 2 then Some (little_number 2 bytes) else None

abbrev pub id_of : Option (List ℕ) → Option ℕ
id_of None = None
id_of (Some bytes) = id_in bytes

abbrev pub is_newfamily : Option GenericHeader → Bool
is_newfamily None = false
is_newfamily (Some h) = h.command == 1

-- a message of the controller (of type 16, GENL_ID_CTRL, of NETLINK_GENERIC, 16) of the command
-- CTRL_CMD_NEWFAMILY (1)
abbrev pub names_family : Head → List ℕ → Bool
names_family head payload =
    head.protocol == 16 && head.message_type == 16 && is_newfamily (generic_header payload)

abbrev pub named : Option ℕ → Option (List ℕ) → Option (ℕ × List ℕ)
named (Some id) (Some name) = Some (id, without_zero name)
named id name = None

-- the family that its attributes name: CTRL_ATTR_FAMILY_ID (1) and CTRL_ATTR_FAMILY_NAME (2), a
-- text
abbrev pub family_in : List ℕ → Option (ℕ × List ℕ)
family_in attributes = named (id_of (first_payload 1 attributes)) (first_payload 2 attributes)

-- the number and the name of the family that a message names
abbrev pub family_said : Head → List ℕ → Option (ℕ × List ℕ)
family_said head payload = if names_family head payload then family_in (drop 4 payload) else None

-- what is learnt for a number, once this is said
abbrev pub learnt_from : Option (ℕ × List ℕ) → List Lines → ℕ → Option ℕ → Option ℕ
learnt_from None tables n before = before
learnt_from (Some (id, name)) tables n before = learnt_as id (generic_in name tables) n before
