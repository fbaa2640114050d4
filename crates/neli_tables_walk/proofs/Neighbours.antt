-- The attribute beside another, attribute by attribute.
use Rattle.std.proofs.Common.{◌≡◌, ◌≢◌, ◌∷◌, Ok, Err, ◌<◌, ℕ, zero, suc, ◌+◌, Bool, true, false}
use Rattle.std.proofs.Common.{List, [], Option, Some, None}
use Rattle.std.proofs.Common.{refl, sym, ap, ◌∙◌, arith, take, find}
use Rattle.std.specs.Prelude.{option_map}
use Rattle.neli_attr.specs.laws.Attributes.{attribute-placed}
use Rattle.neli_attr.specs.TypeField.{type_of}
use Rattle.neli_wire.specs.declared.errors.DeError.{DeError}
use Rattle.neli_wire.specs.Frames.{frame_at}
use Rattle.neli_wire.specs.laws.Frames.{IsPlaced}
use Rattle.neli_reader.specs.laws.Cuts.{cut_of-end, cut_of-message, cut_of-fault}
use Rattle.neli_reader.specs.Cuts.{Cut, message_before}
use Rattle.neli_tables_walk.specs.Shapes.{attributes_of, has_number}
use Rattle.neli_tables_walk.specs.Elements.{Lent, attribute_layout}

-- ---- a list of attributes

lent-placed : IsPlaced attribute_layout
lent-placed = attribute-placed (type_of (λ n. n)) _

attributes-end : (s : List ℕ) → s ≡ [] → attributes_of s ≡ ([], None)
attributes-end s e = rw e (cut_of-end attribute_layout lent-placed (omega arith))

pub attributes-more : (s r : List ℕ) (a : Lent) → frame_at attribute_layout s ≡ Ok (a, r)
    → attributes_of s ≡ message_before a (attributes_of r)
attributes-more = cut_of-message attribute_layout lent-placed (omega arith)

attributes-fault : (s : List ℕ) (e : DeError) → s ≢ [] → frame_at attribute_layout s ≡ Err e
    → attributes_of s ≡ ([], Some e)
attributes-fault = cut_of-fault attribute_layout lent-placed (omega arith)

-- what is refused has no attribute
pub attributes-none : (s : List ℕ) (e : DeError) → frame_at attribute_layout s ≡ Err e
    → (attributes_of s).0 ≡ []
attributes-none [] e is = ap (λ (cut : Cut Lent). cut.0) (attributes-end [] refl)
attributes-none (b ∷ s) e is =
    ap (λ (cut : Cut Lent). cut.0) (attributes-fault (b ∷ s) e (λ none. absurd cc) is)

-- ---- the one that is sought

-- the payload of the first attribute of this number among the first n
abbrev pub sought : ℕ → ℕ → List ℕ → Option (List ℕ)
sought n number rest =
    option_map (λ (a : Lent). a.1) (find (has_number number) (take n (attributes_of rest).0))

none-in : (n number : ℕ)
    → option_map (λ (a : Lent). a.1) (find (has_number number) (take n [])) ≡ None
none-in zero number = refl
none-in (suc n) number = refl

pub sought-zero : (number : ℕ) (rest : List ℕ) (n : ℕ) → n ≡ 0 → sought n number rest ≡ None
sought-zero number rest n e = rw e refl

pub sought-none : (n number : ℕ) (rest : List ℕ) → (attributes_of rest).0 ≡ []
    → sought n number rest ≡ None
sought-none n number rest e =
    ap (λ (xs : List Lent). option_map (λ (a : Lent). a.1) (find (has_number number) (take n xs))) e
    ∙ none-in n number

module _ (number : ℕ) (rest r : List ℕ) (a : Lent)
    (is : attributes_of rest ≡ message_before a (attributes_of r)) where
  abbrev in_cut : ℕ → Cut Lent → Option (List ℕ)
  in_cut n cut = option_map (λ (x : Lent). x.1) (find (has_number number) (take n cut.0))

  pub sought-here : (n : ℕ) → 0 < n → has_number number a ≡ true → sought n number rest ≡ Some a.1
  sought-here zero some fits = absurd (omega arith)
  sought-here (suc n) some fits = ap (in_cut (suc n)) is ∙ (rw fits refl)

  pub sought-later : (n later : ℕ) → later + 1 ≡ n → has_number number a ≡ false
      → sought n number rest ≡ sought later number r
  sought-later n later one other =
      rw (sym one ∙ one_more later) (ap (in_cut (suc later)) is ∙ (rw other refl))
    where
      one_more : (k : ℕ) → k + 1 ≡ suc k
      one_more k = omega arith

-- ---- tests

pub not-true : (b : Bool) → (b ≡ true → ⊥) → b ≡ false
not-true true h = absurd (h refl)
not-true false h = refl
