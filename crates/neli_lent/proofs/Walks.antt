-- Walks, one item after the other.
use Rattle.std.proofs.Common.{◌≡◌, ◌≢◌, ◌+◌, ◌≤◌, ℕ, List, [], length}
use Rattle.std.proofs.Common.{Some, None, Ok, Err, ap, arith}
use Rattle.std.specs.Prelude.{Result, option_map}
use Rattle.neli_wire.specs.declared.errors.DeError.{DeError}
use Rattle.neli_wire.specs.Frames.{frame_at}
use Rattle.neli_wire.specs.Place.{Place, whole}
use Rattle.neli_wire.specs.Reading.{refusal_within}
use Rattle.neli_attr.specs.Attributes.{Attr}
use Rattle.neli_attr.specs.laws.Attributes.{attribute-placed}
use Rattle.neli_reader.specs.Cuts.{Cut, cut_of, message_before}
use Rattle.neli_reader.specs.laws.Cuts.{cut_of-end, cut_of-message, cut_of-fault, frame_at-longer}
use Rattle.neli_reader.specs.laws.Messages.{layout_with-placed}
use Rattle.neli_lent.specs.Attributes.{attributes_at, lent_attribute}
use Rattle.neli_lent.specs.Messages.{Lent, lent_message, messages_in}

-- this many values before others
abbrev pub counted_after : ℕ → Result ℕ DeError → Result ℕ DeError
counted_after n (Ok m) = Ok (n + m)
counted_after n (Err e) = Err e

-- ---- messages

module _ {K : Type 0} (type_of : ℕ → K) where
  pub messages-end : (s : List ℕ) → s ≡ [] → messages_in type_of s ≡ ([], None)
  unfolding messages_in
  messages-end s e = rw e (cut_of-end (lent_message type_of) (layout_with-placed type_of _) (omega arith))

  pub messages-message : (s r : List ℕ) (m : Lent K) → frame_at (lent_message type_of) s ≡ Ok (m, r)
      → messages_in type_of s ≡ message_before m (messages_in type_of r)
  unfolding messages_in
  messages-message = cut_of-message (lent_message type_of) (layout_with-placed type_of _) (omega arith)

  pub messages-fault : (s : List ℕ) (e : DeError) → s ≢ [] → frame_at (lent_message type_of) s ≡ Err e
      → messages_in type_of s ≡ ([], Some e)
  unfolding messages_in
  messages-fault = cut_of-fault (lent_message type_of) (layout_with-placed type_of _) (omega arith)

-- ---- attributes

abbrev within : {A : Type 0} → ℕ → Cut A → Cut A
within n cut = (cut.0, option_map (refusal_within n) cut.1)

module _ {K : Type 0} (kind_of : ℕ → K) where
  pub attributes-end : (place : Place) → place.rest ≡ [] → attributes_at kind_of place ≡ ([], None)
  unfolding attributes_at
  attributes-end place e =
      let none : cut_of (lent_attribute kind_of) place.rest ≡ ([], None) =
      rw e (cut_of-end (lent_attribute kind_of) (attribute-placed kind_of _) (omega arith)) in
      ap (within (length (whole place))) none

  pub attributes-attribute : (place next : Place) (a : Attr K (List ℕ))
      → frame_at (lent_attribute kind_of) place.rest ≡ Ok (a, next.rest) → whole next ≡ whole place
      → attributes_at kind_of place ≡ message_before a (attributes_at kind_of next)
  unfolding attributes_at
  attributes-attribute place next a e same =
      rw same (ap (within (length (whole place))) (cut_of-message (lent_attribute kind_of) (attribute-placed kind_of _)
      (omega arith) place.rest next.rest a e))

  pub attributes-fault : (place : Place) (e : DeError) → place.rest ≢ []
      → frame_at (lent_attribute kind_of) place.rest ≡ Err e
      → attributes_at kind_of place ≡ ([], Some (refusal_within (length (whole place)) e))
  unfolding attributes_at
  attributes-fault place e any is =
      ap (within (length (whole place))) (cut_of-fault (lent_attribute kind_of) (attribute-placed kind_of _)
      (omega arith) place.rest e any is)

  pub attribute-longer : (s r : List ℕ) (a : Attr K (List ℕ)) → frame_at (lent_attribute kind_of) s ≡ Ok (a, r)
      → length r + 4 ≤ length s
  attribute-longer = frame_at-longer (lent_attribute kind_of) (attribute-placed kind_of _) (omega arith)
