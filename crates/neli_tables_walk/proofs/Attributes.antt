-- The attribute that is found among those of a message.
use Rattle.std.proofs.Common.{◌≡◌, ◌∙◌, ℕ, List, find, Option, Some, None, Result, Ok, Err, refl}
use Rattle.std.proofs.Common.{sym, ap}
use Rattle.std.specs.Option.{option_map}
use Rattle.neli_attr.specs.TypeField.{type_of}
use Rattle.neli_attr.specs.AttrType.{AttrType}
use Rattle.neli_lent.specs.declared.attribute.LentAttr.{LentAttr}
use Rattle.neli_lent.specs.Attributes.{attribute_view, attributes_at}
use Rattle.neli_lent.specs.Walks.{find_in, found_or, map_found}
use Rattle.neli_wire.specs.declared.errors.DeError.{DeError}
use Rattle.neli_wire.specs.Place.{Place}
use Rattle.neli_tables_walk.specs.Elements.{Lent}
use Rattle.neli_tables_walk.specs.Shapes.{attributes_of, has_number}
use Rattle.neli_tables_walk.specs.Controller.{first_payload}

-- what was found, if something was
abbrev pub value_of : Result (Option Lent) DeError → Option Lent
value_of (Ok found) = found
value_of (Err e) = None

value-found : (found : Option Lent) (fault : Option DeError) → value_of (found_or found fault)
    ≡ found
value-found (Some a) fault = refl
value-found None None = refl
value-found None (Some e) = refl

sought : (number : ℕ) (place : Place)
    → value_of (find_in (has_number number) (attributes_at (type_of (λ n. n)) place))
    ≡ find (has_number number) (attributes_of place.rest).0
unfolding attributes_at
sought number place = value-found _ _

pub payload-found : (number : ℕ) (bytes : List ℕ) (place : Place) (found : Result
    (Option Lent) DeError)
    → place.rest ≡ bytes → found
    ≡ find_in (has_number number) (attributes_at (type_of (λ n. n)) place)
    → option_map (λ (a : Lent). a.1) (value_of found) ≡ first_payload number bytes
payload-found number bytes place found rest is =
    ap (λ x. option_map (λ (a : Lent). a.1) (value_of x)) is
    ∙ ap (option_map (λ (a : Lent). a.1)) (sought number place)
    ∙ ap (λ b. option_map (λ (a : Lent). a.1) (find (has_number number) (attributes_of b).0)) rest

abbrev pub Found : Type 0
Found = Result (Option (LentAttr (AttrType ℕ))) DeError

-- the payload of what was found
abbrev pub payload_in : Found → Option (List ℕ)
payload_in found = option_map (λ (a : Lent). a.1) (value_of (map_found attribute_view found))

pub payload-is : (number : ℕ) (bytes : List ℕ) (place : Place) (found seen : Found) → place.rest
    ≡ bytes
    → map_found attribute_view found
    ≡ find_in (has_number number) (attributes_at (type_of (λ n. n)) place)
    → found ≡ seen → payload_in seen ≡ first_payload number bytes
payload-is number bytes place found seen rest is same =
    sym (ap payload_in same)
    ∙ payload-found number bytes place (map_found attribute_view found) rest is
