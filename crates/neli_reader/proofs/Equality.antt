-- Where `==` is equality: for answers, headers and messages, and for an enum that derives it.
use Rattle.std.specs.Prelude.{◌≡◌, Bool, true, false, List, [], ◌∷◌, ◌&&◌, nat_eq, refl}
use Rattle.std.specs.Ordering.{int_eq}
use Rattle.std.specs.Cmp.{first_so, second_so, signed_Decides}
use Rattle.std.specs.Cmp.Derive.{both_true, of_values}
use mathlib.Core.Path.{sym, ap}
use mathlib.Core.Bool.{true≢false}
use mathlib.Core.Logic.{inl, inr}
use denote.Struct.Field.{Field}
use denote.Struct.Values.{Values}
use denote.Enum.Declared.{Record, Choice, values_one}
use denote.Enum.Compared.{Each, by}
use Rattle.neli_wire.specs.Constants.{IsEquality}
use Rattle.neli_attr.specs.laws.Equality.{both-apart, bytes-equality, from-parts}
use Rattle.neli_msg.specs.Answers.{Attributes}
use Rattle.neli_msg.specs.Headers.{Header}
use Rattle.neli_msg.specs.declared.answer.Nlmsgerr.{Nlmsgerr}
use Rattle.neli_msg.specs.declared.echo.Echoed.{Echoed}
use Rattle.neli_msg.specs.declared.framed.Framed.{Framed}

-- ---- answers

pub answer-equality : {M : Type 0} {eq : M → M → Bool} {attrs : Attributes → Attributes → Bool} → IsEquality eq
    → IsEquality attrs → IsEquality {T = Nlmsgerr M} (λ a b. int_eq a.error b.error &&
    (eq a.nlmsg b.nlmsg && attrs a.ext_ack b.ext_ack))
answer-equality {M} {eq} {attrs} h k = from-parts apart
    (λ a. both_true ((signed_Decides a.error a.error).1 refl)
    (both_true ((h a.nlmsg a.nlmsg).1 refl) ((k a.ext_ack a.ext_ack).1 refl)))
  where
    apart : (a b : Nlmsgerr M) → (int_eq a.error b.error && (eq a.nlmsg b.nlmsg && attrs a.ext_ack b.ext_ack)) ≡ true
        → a ≡ b
    apart a b e =
        let code = first_so (int_eq a.error b.error) (eq a.nlmsg b.nlmsg && attrs a.ext_ack b.ext_ack) e in
        let later = second_so (int_eq a.error b.error) (eq a.nlmsg b.nlmsg && attrs a.ext_ack b.ext_ack) e in
        let both = both-apart h k (λ (n : Nlmsgerr M). n.nlmsg) (λ n. n.ext_ack) a b later in
        λ i. record { error = (signed_Decides a.error b.error).0 code i; nlmsg = both.0 i; ext_ack = both.1 i }

-- ---- headers and messages

module _ {K : Type 0} {same : K → K → Bool} (h : IsEquality same) where
  abbrev pub header_eq : Header K → Header K → Bool
  header_eq a b = nat_eq a.len b.len && (same a.message_type b.message_type &&
      (nat_eq a.flags.0 b.flags.0 && (nat_eq a.sequence_number b.sequence_number && nat_eq a.port b.port)))

  header-apart : (a b : Header K) → header_eq a b ≡ true → a ≡ b
  header-apart a b e =
      let e2 = second_so (nat_eq a.len b.len) _ e in
      let e3 = second_so (same a.message_type b.message_type) _ e2 in
      let e4 = second_so (nat_eq a.flags.0 b.flags.0) _ e3 in
      λ i. record {
        len = (bytes-equality a.len b.len).0 (first_so (nat_eq a.len b.len) _ e) i;
        message_type = (h a.message_type b.message_type).0 (first_so (same a.message_type b.message_type) _ e2) i;
        flags = record { 0 = (bytes-equality a.flags.0 b.flags.0).0 (first_so (nat_eq a.flags.0 b.flags.0) _ e3) i };
        sequence_number = (bytes-equality a.sequence_number b.sequence_number).0
            (first_so (nat_eq a.sequence_number b.sequence_number) _ e4) i;
        port = (bytes-equality a.port b.port).0 (second_so (nat_eq a.sequence_number b.sequence_number) _ e4) i;
      }

  header-same : (a : Header K) → header_eq a a ≡ true
  header-same a =
      both_true ((bytes-equality a.len a.len).1 refl) (both_true ((h a.message_type a.message_type).1 refl)
      (both_true ((bytes-equality a.flags.0 a.flags.0).1 refl)
      (both_true ((bytes-equality a.sequence_number a.sequence_number).1 refl)
      ((bytes-equality a.port a.port).1 refl))))

  pub header-equality : IsEquality header_eq
  header-equality = from-parts header-apart header-same

pub framed-equality : {K X : Type 0} {p : Header K → Header K → Bool} {q : X → X → Bool} → IsEquality p → IsEquality q
    → IsEquality {T = Framed K X} (λ a b. p a.header b.header && q a.payload b.payload)
framed-equality {K} {X} {p} {q} h k = from-parts apart
    (λ a. both_true ((h a.header a.header).1 refl) ((k a.payload a.payload).1 refl))
  where
    apart : (a b : Framed K X) → (p a.header b.header && q a.payload b.payload) ≡ true → a ≡ b
    apart a b e =
        let both = both-apart h k (λ (m : Framed K X). m.header) (λ m. m.payload) a b e in
        λ i. record { header = both.0 i; payload = both.1 i }

pub echoed-equality : {P : Type 0} {q : P → P → Bool} → IsEquality q
    → IsEquality {T = Echoed P} (λ a b. q a.0 b.0)
echoed-equality {P} {q} k = from-parts (λ a b e i. record { 0 = (k a.0 b.0).0 e i }) (λ a. (k a.0 a.0).1 refl)

-- ---- enums

-- the comparison of each variant's fields is equality
abbrev pub AreEqualities : (Fss : List (List Field)) → Each Bool Fss → Type 0
AreEqualities [] each = Unit {0}
AreEqualities (Fs ∷ Fss) each = IsEquality {T = Values Fs} each.0 × AreEqualities Fss each.1

choice-apart : (Fss : List (List Field)) (each : Each Bool Fss) → AreEqualities Fss each → (c d : Choice Fss)
    → by false false Fss each c d ≡ true → c ≡ d
choice-apart [] each all c d e = absurd c
choice-apart (Fs ∷ Fss) each all (inl x) (inl y) e = ap inl ((all.0 x y).0 e)
choice-apart (Fs ∷ Fss) each all (inl x) (inr y) e = absurd (true≢false (sym e))
choice-apart (Fs ∷ Fss) each all (inr x) (inl y) e = absurd (true≢false (sym e))
choice-apart (Fs ∷ Fss) each all (inr x) (inr y) e = ap inr (choice-apart Fss each.1 all.1 x y e)

choice-same : (Fss : List (List Field)) (each : Each Bool Fss) → AreEqualities Fss each → (c : Choice Fss)
    → by false false Fss each c c ≡ true
choice-same [] each all c = absurd c
choice-same (Fs ∷ Fss) each all (inl x) = (all.0 x x).1 refl
choice-same (Fs ∷ Fss) each all (inr x) = choice-same Fss each.1 all.1 x

pub enum-equality : (N : Record) (each : Each Bool N.parts) → AreEqualities N.parts each
    → IsEquality (of_values N false false each)
enum-equality N each all = from-parts (λ a b e. values_one N a b
    (choice-apart N.parts each all (N.as_values a) (N.as_values b) e))
    (λ a. choice-same N.parts each all (N.as_values a))

-- a variant with one field
pub one-field : {A : Type 0} {eq : A → A → Bool} → IsEquality eq → IsEquality {T = A × Unit {0}} (λ x y. eq x.0 y.0)
one-field {A} {eq} h = from-parts (λ x y e i. ((h x.0 y.0).0 e i, tt)) (λ x. (h x.0 x.0).1 refl)

-- a variant with none
pub no-field : IsEquality {T = Unit {0}} (λ x y. true)
no-field = from-parts (λ x y e. refl) (λ x. refl)
