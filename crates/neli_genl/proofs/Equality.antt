-- Where `==` of messages is equality.
use Rattle.std.specs.Prelude.{◌≡◌, ℕ, ℤ, Bool, true, List, ◌&&◌, nat_eq, refl}
use Rattle.std.specs.Ordering.{int_eq}
use Rattle.std.specs.Cmp.{first_so, second_so, signed_Decides}
use Rattle.std.specs.Cmp.Derive.{both_true}
use Rattle.neli_wire.specs.Constants.{IsEquality}
use Rattle.neli_attr.specs.declared.nlattr.Nlattr.{Nlattr}
use Rattle.neli_attr.specs.laws.Equality.{both-apart, bytes-equality, from-parts, pair-equality}
use Rattle.neli_consts_system.specs.declared.connector.CnMsgIdx.{CnMsgIdx}
use Rattle.neli_consts_system.specs.declared.connector.CnMsgVal.{CnMsgVal}
use Rattle.neli_genl.specs.declared.cn_msg.CnMsg.{CnMsg}
use Rattle.neli_genl.specs.declared.cn_msg.CnMsgHeader.{CnMsgHeader}
use Rattle.neli_genl.specs.declared.genlmsghdr.Genlmsghdr.{Genlmsghdr}

-- ---- the connector

module _ {idx : CnMsgIdx → CnMsgIdx → Bool} {val : CnMsgVal → CnMsgVal
    → Bool} (i : IsEquality idx) (v : IsEquality val) where
  abbrev pub header_eq : CnMsgHeader → CnMsgHeader → Bool
  header_eq a b = idx a.idx b.idx && (val a.val b.val &&
      (nat_eq a.seq b.seq && (nat_eq a.ack b.ack && (nat_eq a.len b.len && nat_eq a.flags b.flags))))

  header-apart : (a b : CnMsgHeader) → header_eq a b ≡ true → a ≡ b
  header-apart a b e =
      let e2 = second_so (idx a.idx b.idx) _ e in
      let e3 = second_so (val a.val b.val) _ e2 in
      let e4 = second_so (nat_eq a.seq b.seq) _ e3 in
      let e5 = second_so (nat_eq a.ack b.ack) _ e4 in
      λ j. record {
        idx = (i a.idx b.idx).0 (first_so (idx a.idx b.idx) _ e) j;
        val = (v a.val b.val).0 (first_so (val a.val b.val) _ e2) j;
        seq = (bytes-equality a.seq b.seq).0 (first_so (nat_eq a.seq b.seq) _ e3) j;
        ack = (bytes-equality a.ack b.ack).0 (first_so (nat_eq a.ack b.ack) _ e4) j;
        len = (bytes-equality a.len b.len).0 (first_so (nat_eq a.len b.len) _ e5) j;
        flags = (bytes-equality a.flags b.flags).0 (second_so (nat_eq a.len b.len) _ e5) j;
      }

  pub header-equality : IsEquality header_eq
  header-equality = from-parts header-apart (λ a. both_true ((i a.idx a.idx).1 refl)
      (both_true ((v a.val a.val).1 refl) (both_true ((bytes-equality a.seq a.seq).1 refl)
      (both_true ((bytes-equality a.ack a.ack).1 refl)
      (both_true ((bytes-equality a.len a.len).1 refl) ((bytes-equality a.flags a.flags).1 refl))))))

pub connector-equality : {P : Type 0} {p : CnMsgHeader → CnMsgHeader → Bool} {q : P → P → Bool} → IsEquality p
    → IsEquality q → IsEquality {T = CnMsg P} (λ a b. p a.header b.header && q a.payload b.payload)
connector-equality {P} {p} {q} h k = from-parts apart (λ a. both_true ((h a.header a.header).1 refl)
    ((k a.payload a.payload).1 refl))
  where
    apart : (a b : CnMsg P) → (p a.header b.header && q a.payload b.payload) ≡ true → a ≡ b
    apart a b e =
        let both = both-apart h k (λ (m : CnMsg P). m.header) (λ m. m.payload) a b e in
        λ j. record { header = both.0 j; payload = both.1 j }

-- ---- generic netlink

abbrev Attrs : Type 0 → Type 0
Attrs T = List (Nlattr T (List ℕ))

module _ {C T H : Type 0} {cmd : C → C → Bool} {attrs : Attrs T → Attrs T → Bool} {user : H → H
    → Bool} (c : IsEquality cmd) (l : IsEquality attrs) (u : IsEquality user) where
  abbrev pub generic_eq : Genlmsghdr C T H → Genlmsghdr C T H → Bool
  generic_eq a b = cmd a.cmd b.cmd && (nat_eq a.version b.version &&
      (nat_eq a.reserved b.reserved && (user a.header b.header && attrs a.attrs b.attrs)))

  generic-apart : (a b : Genlmsghdr C T H) → generic_eq a b ≡ true → a ≡ b
  generic-apart a b e =
      let e2 = second_so (cmd a.cmd b.cmd) _ e in
      let e3 = second_so (nat_eq a.version b.version) _ e2 in
      let e4 = second_so (nat_eq a.reserved b.reserved) _ e3 in
      λ j. record {
        cmd = (c a.cmd b.cmd).0 (first_so (cmd a.cmd b.cmd) _ e) j;
        version = (bytes-equality a.version b.version).0 (first_so (nat_eq a.version b.version) _ e2) j;
        reserved = (bytes-equality a.reserved b.reserved).0 (first_so (nat_eq a.reserved b.reserved) _ e3) j;
        header = (u a.header b.header).0 (first_so (user a.header b.header) _ e4) j;
        attrs = (l a.attrs b.attrs).0 (second_so (user a.header b.header) _ e4) j;
      }

  pub generic-equality : IsEquality generic_eq
  generic-equality = from-parts generic-apart (λ a. both_true ((c a.cmd a.cmd).1 refl)
      (both_true ((bytes-equality a.version a.version).1 refl)
      (both_true ((bytes-equality a.reserved a.reserved).1 refl)
      (both_true ((u a.header a.header).1 refl) ((l a.attrs a.attrs).1 refl)))))

-- ---- events of processes

pub signed : IsEquality int_eq
signed = λ a b. signed_Decides a b

-- the last field of a variant
pub last-field : {A : Type 0} {eq : A → A → Bool} → IsEquality eq → IsEquality {T = A × Unit {0}} (λ x y. eq x.0 y.0)
last-field {A} {eq} h = from-parts (λ x y e i. ((h x.0 y.0).0 e i, tt)) (λ x. (h x.0 x.0).1 refl)

-- two process numbers, and what follows them
pub processes : {A : Type 0} {eq : A → A → Bool} → IsEquality eq
    → IsEquality {T = ℤ × (ℤ × A)} (λ x y. int_eq x.0 y.0 && (int_eq x.1.0 y.1.0 && eq x.1.1 y.1.1))
processes h = pair-equality signed (pair-equality signed h)

pub pair-of-processes : IsEquality {T = ℤ × (ℤ × Unit {0})} (λ x y. int_eq x.0 y.0 && int_eq x.1.0 y.1.0)
pair-of-processes = pair-equality signed (last-field signed)

pub pair-of-numbers : IsEquality {T = ℕ × (ℕ × Unit {0})} (λ x y. nat_eq x.0 y.0 && nat_eq x.1.0 y.1.0)
pair-of-numbers = pair-equality bytes-equality (last-field bytes-equality)
