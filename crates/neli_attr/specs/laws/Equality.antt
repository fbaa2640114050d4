-- Where `==` is equality: for lists, bytes and flags, and attributes.
use Rattle.std.specs.Prelude.{◌≡◌, Bool, true, false, List, [], ◌∷◌, ◌&&◌, nat_eq, refl}
use Rattle.std.specs.Cmp.Lexicographic.{pointwise}
use Rattle.std.specs.Cmp.{first_so, second_so, unsigned_Decides}
use Rattle.std.specs.Cmp.Derive.{both_true}
use mathlib.Core.Bool.{beq, true≢false}
use mathlib.Core.Path.{sym, ap, ◌∙◌}
use Rattle.neli_wire.specs.Constants.{IsEquality}
use Rattle.neli_attr_parts.specs.declared.attr_type.AttrType.{AttrType}
use Rattle.neli_attr_parts.specs.TypeField.{attr_type_eq}
use Rattle.neli_attr.specs.declared.nlattr.Nlattr.{Nlattr}
use Rattle.neli_attr.specs.declared.rtattr.Rtattr.{Rtattr}
use Rattle.neli_attr.specs.Nlattr.{nlattr_eq}

-- it distinguishes values, and each is equal to itself
pub from-parts : {A : Type 0} {eq : A → A → Bool} → ((a b : A) → eq a b ≡ true → a ≡ b) → ((a : A) → eq a a ≡ true)
    → IsEquality eq
from-parts {A} {eq} apart same = λ a b. (apart a b, λ e. ap (eq a) (sym e) ∙ same a)

-- ---- lists

module _ {A : Type 0} {eq : A → A → Bool} (h : IsEquality eq) where
  lists-apart : (xs ys : List A) → pointwise eq xs ys ≡ true → xs ≡ ys
  lists-apart [] [] e = refl
  lists-apart [] (y ∷ ys) e = absurd (true≢false (sym e))
  lists-apart (x ∷ xs) [] e = absurd (true≢false (sym e))
  lists-apart (x ∷ xs) (y ∷ ys) e = λ i. (h x y).0 (first_so (eq x y) (pointwise eq xs ys) e) i ∷ lists-apart xs ys
      (second_so (eq x y) (pointwise eq xs ys) e) i

  lists-same : (xs : List A) → pointwise eq xs xs ≡ true
  lists-same [] = refl
  lists-same (x ∷ xs) = both_true ((h x x).1 refl) (lists-same xs)

  pub lists-equality : IsEquality (pointwise eq)
  lists-equality = from-parts lists-apart lists-same

-- ---- bytes and flags

pub bytes-equality : IsEquality nat_eq
bytes-equality = λ a b. unsigned_Decides a b

flags-equality : IsEquality beq
flags-equality = from-parts apart same
  where
    apart : (a b : Bool) → beq a b ≡ true → a ≡ b
    apart true true e = refl
    apart false false e = refl
    apart true false e = absurd (true≢false (sym e))
    apart false true e = absurd (true≢false (sym e))

    same : (a : Bool) → beq a a ≡ true
    same true = refl
    same false = refl

-- a comparison of two parts
pub both-apart : {A B C : Type 0} {p : A → A → Bool} {q : B → B → Bool} → IsEquality p → IsEquality q
    → (f : C → A) (g : C → B) (a b : C) → (p (f a) (f b) && q (g a) (g b)) ≡ true → (f a ≡ f b) × (g a ≡ g b)
both-apart {A} {B} {C} {p} {q} h k f g a b e = (
  (h (f a) (f b)).0 (first_so (p (f a) (f b)) (q (g a) (g b)) e),
  (k (g a) (g b)).0 (second_so (p (f a) (f b)) (q (g a) (g b)) e),
)

-- pairs, part by part
pub pair-equality : {A B : Type 0} {p : A → A → Bool} {q : B → B → Bool} → IsEquality p → IsEquality q
    → IsEquality {T = A × B} (λ a b. p a.0 b.0 && q a.1 b.1)
pair-equality {A} {B} {p} {q} h k = from-parts apart (λ a. both_true ((h a.0 a.0).1 refl) ((k a.1 a.1).1 refl))
  where
    apart : (a b : A × B) → (p a.0 b.0 && q a.1 b.1) ≡ true → a ≡ b
    apart a b e =
        let both = both-apart h k (λ (c : A × B). c.0) (λ c. c.1) a b e in
        λ i. (both.0 i, both.1 i)

-- values by their parts, which make the value
pub parts-equality : {C T : Type 0} {eq : T → T → Bool} (parts : C → T) (whole : T → C)
    → ((c : C) → whole (parts c) ≡ c) → IsEquality eq → IsEquality (λ a b. eq (parts a) (parts b))
parts-equality parts whole back h = from-parts (λ a b e. sym (back a) ∙ ap whole ((h (parts a) (parts b)).0 e) ∙ back b)
    (λ a. (h (parts a) (parts a)).1 refl)

-- ---- attributes

module _ {T : Type 0} {same : T → T → Bool} (h : IsEquality same) where
  field-apart : (a b : AttrType T) → attr_type_eq same a b ≡ true → a ≡ b
  field-apart a b e =
      let flags = first_so (beq a.nla_nested b.nla_nested && beq a.nla_network_order b.nla_network_order)
      (same a.nla_type b.nla_type) e in
      let kind = second_so (beq a.nla_nested b.nla_nested && beq a.nla_network_order b.nla_network_order)
      (same a.nla_type b.nla_type) e in
      let both = both-apart flags-equality flags-equality (λ (t : AttrType T). t.nla_nested)
      (λ t. t.nla_network_order) a b flags in
      λ i. record { nla_nested = both.0 i; nla_network_order = both.1 i; nla_type = (h a.nla_type b.nla_type).0 kind i }

  pub field-equality : IsEquality (attr_type_eq same)
  field-equality = from-parts field-apart (λ a. both_true
      (both_true ((flags-equality a.nla_nested a.nla_nested).1 refl)
      ((flags-equality a.nla_network_order a.nla_network_order).1 refl)) ((h a.nla_type a.nla_type).1 refl))

  module _ {P : Type 0} {same_payload : P → P → Bool} (k : IsEquality same_payload) where
    attribute-apart : (a b : Nlattr T P) → nlattr_eq same same_payload a b ≡ true → a ≡ b
    attribute-apart a b e =
        let head = first_so (nat_eq a.nla_len b.nla_len && attr_type_eq same a.nla_type b.nla_type)
        (same_payload a.nla_payload b.nla_payload) e in
        let payload = second_so (nat_eq a.nla_len b.nla_len && attr_type_eq same a.nla_type b.nla_type)
        (same_payload a.nla_payload b.nla_payload) e in
        let both = both-apart bytes-equality field-equality (λ (t : Nlattr T P). t.nla_len)
        (λ t. t.nla_type) a b head in
        λ i. record {
          nla_len = both.0 i;
          nla_type = both.1 i;
          nla_payload = (k a.nla_payload b.nla_payload).0 payload i;
        }

    pub attribute-equality : IsEquality (nlattr_eq same same_payload)
    attribute-equality = from-parts attribute-apart (λ a. both_true
        (both_true ((bytes-equality a.nla_len a.nla_len).1 refl) ((field-equality a.nla_type a.nla_type).1 refl))
        ((k a.nla_payload a.nla_payload).1 refl))

-- ---- routing attributes

abbrev pub routing_eq : {T P : Type 0} → (T → T → Bool) → (P → P → Bool) → Rtattr T P → Rtattr T P → Bool
routing_eq same same_payload a b = nat_eq a.rta_len b.rta_len &&
    (same a.rta_type b.rta_type && same_payload a.rta_payload b.rta_payload)

pub routing-equality : {T P : Type 0} {same : T → T → Bool} {same_payload : P → P → Bool} → IsEquality same
    → IsEquality same_payload → IsEquality (routing_eq same same_payload)
routing-equality h k =
    parts-equality (λ a. (a.rta_len, (a.rta_type, a.rta_payload)))
    (λ t. record { rta_len = t.0; rta_type = t.1.0; rta_payload = t.1.1 }) (λ a. refl)
    (pair-equality bytes-equality (pair-equality h k))

-- lists of them, with payloads of bytes
pub routing_list-equality : {T : Type 0} {same : T → T → Bool} → IsEquality same
    → IsEquality (pointwise (routing_eq same (pointwise nat_eq)))
routing_list-equality h = lists-equality (routing-equality h (lists-equality bytes-equality))
