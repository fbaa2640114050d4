-- The results of look-ups, in the words of `specs/Attributes.antt`.
use Rattle.std.proofs.Common.{◌≡◌, ℕ, Bool, true, false, cond, List, [], ◌∷◌, Option, Some, None, Result, Ok, Err, refl}
use Rattle.std.proofs.Common.{ap, map, find, option_map, IsErrAnd, IsSomeAnd, IfOk, IfErr, OnErr, ◌<◌, length, arith}
use Rattle.std.proofs.lemmas.List.{length-map}
use Rattle.neli_consts.specs.declared.index.Index.{Index}
use Rattle.neli_wire.specs.Bytes.{Reading}
use Rattle.neli_wire.specs.laws.Elements.{elements_by}
use Rattle.neli_consts.specs.CtrlAttrMcastGrp.{ctrl_attr_mcast_grp_of}
use Rattle.neli_attr.specs.Attributes.{attributes_in}
use Rattle.neli_attr.specs.TypeField.{type_of}
use Rattle.neli_genl.specs.Genlmsghdr.{AttributesRead}
use Rattle.neli_resolvers.specs.Attributes.{Group, HasBytes, group_attrs}
use Rattle.neli_resolvers.specs.Attributes.{group_attrs_take_memory, group_name_takes_memory, groups}
use Rattle.neli_resolvers.specs.Attributes.{groups_take_memory}
use Rattle.std.specs.Result.{result_ok}
use Rattle.neli_wire.specs.declared.errors.DeError.{DeError}
use Rattle.neli_wire.specs.declared.errors.DeError.TheVariants.{Msg, Io, Utf8, InvalidInput, Memory}
use Rattle.neli_wire.specs.Reading.{number_at}
use Rattle.neli_wire.specs.Refusals.{Refuses}
use Rattle.neli_consts.specs.contracts.genl.CtrlAttrPartialEq.TheImpl.{ghosts as ctrl_attr}
use Rattle.neli_consts.specs.contracts.genl.CtrlAttrMcastGrpPartialEq.TheImpl.{ghosts as mcast_grp}
use Rattle.neli_consts.specs.declared.genl.CtrlAttr.{CtrlAttr}
use Rattle.neli_consts.specs.declared.genl.CtrlAttr.TheVariants.{FamilyId, FamilyName, McastGroups}
use Rattle.neli_consts.specs.declared.genl.CtrlAttrMcastGrp.{CtrlAttrMcastGrp}
use Rattle.neli_consts.specs.declared.genl.CtrlAttrMcastGrp.TheVariants.{Name, Id}
use Rattle.neli_attr.specs.Lookup.{list_found, payload_of_type, read_found}
use Rattle.neli_attr.specs.Nlattr.{nlattr_view}
use Rattle.neli_attr.specs.declared.nlattr.Nlattr.{Nlattr}
use Rattle.neli_attr.specs.Payloads.{ReadsFirst}
use Rattle.neli_resolvers.specs.Attributes.{first_number, is_family_id, is_family_name, is_id, is_mcast_groups, is_name}
use Rattle.neli_resolvers.specs.Attributes.{payload_where}

-- ---- types

-- the result of a look-up
abbrev pub looked_up : {K : Type 0} → (K → K → Bool) → K → List (Nlattr K (List ℕ)) → Option (List ℕ)
looked_up same kind attrs = payload_of_type (λ a. a.nla_type.nla_type) same (λ a. a.nla_payload) kind attrs

module _ {K : Type 0} (same : K → K → Bool) (kind : K) (is : K → Bool) (test : (k : K) → same k kind ≡ is k) where
  here_or_later : (a : Nlattr K (List ℕ)) (later : List (Nlattr K (List ℕ))) (b : Bool)
      → looked_up same kind later ≡ payload_where is (map nlattr_view later)
      → option_map (λ (x : Nlattr K (List ℕ)). x.nla_payload)
      (cond b (Some a) (find (λ x. same x.nla_type.nla_type kind) later))
      ≡ option_map (λ x. x.1) (cond b (Some (nlattr_view a)) (find (λ x. is x.0.kind.nla_type) (map nlattr_view later)))
  here_or_later a later true more = refl
  here_or_later a later false more = more

  -- it is the first attribute whose type passes the test
  pub looked_up-where : (attrs : List (Nlattr K (List ℕ)))
      → looked_up same kind attrs ≡ payload_where is (map nlattr_view attrs)
  looked_up-where [] = refl
  looked_up-where (a ∷ later) = rw (test a.nla_type.nla_type)
      (here_or_later a later (is a.nla_type.nla_type) (looked_up-where later))

tests_family_id : (k : CtrlAttr) → ctrl_attr.eq k FamilyId ≡ is_family_id k
tests_family_id FamilyId = refl
tests_family_id k = refl

tests_family_name : (k : CtrlAttr) → ctrl_attr.eq k FamilyName ≡ is_family_name k
tests_family_name FamilyName = refl
tests_family_name k = refl

tests_mcast_groups : (k : CtrlAttr) → ctrl_attr.eq k McastGroups ≡ is_mcast_groups k
tests_mcast_groups McastGroups = refl
tests_mcast_groups k = refl

tests_name : (k : CtrlAttrMcastGrp) → mcast_grp.eq k Name ≡ is_name k
tests_name Name = refl
tests_name k = refl

tests_id : (k : CtrlAttrMcastGrp) → mcast_grp.eq k Id ≡ is_id k
tests_id Id = refl
tests_id k = refl

pub finds_family_id : (attrs : List (Nlattr CtrlAttr (List ℕ)))
    → looked_up ctrl_attr.eq FamilyId attrs ≡ payload_where is_family_id (map nlattr_view attrs)
finds_family_id = looked_up-where ctrl_attr.eq FamilyId is_family_id tests_family_id

pub finds_family_name : (attrs : List (Nlattr CtrlAttr (List ℕ)))
    → looked_up ctrl_attr.eq FamilyName attrs ≡ payload_where is_family_name (map nlattr_view attrs)
finds_family_name = looked_up-where ctrl_attr.eq FamilyName is_family_name tests_family_name

pub finds_mcast_groups : (attrs : List (Nlattr CtrlAttr (List ℕ)))
    → looked_up ctrl_attr.eq McastGroups attrs ≡ payload_where is_mcast_groups (map nlattr_view attrs)
finds_mcast_groups = looked_up-where ctrl_attr.eq McastGroups is_mcast_groups tests_mcast_groups

pub finds_name : (attrs : List (Nlattr CtrlAttrMcastGrp (List ℕ)))
    → looked_up mcast_grp.eq Name attrs ≡ payload_where is_name (map nlattr_view attrs)
finds_name = looked_up-where mcast_grp.eq Name is_name tests_name

pub finds_id : (attrs : List (Nlattr CtrlAttrMcastGrp (List ℕ)))
    → looked_up mcast_grp.eq Id attrs ≡ payload_where is_id (map nlattr_view attrs)
finds_id = looked_up-where mcast_grp.eq Id is_id tests_id

-- ---- refusals

-- the value read, by its outcome
pub was_read : {V A : Type 0} (result : Result V DeError) (outcome : Result A DeError) (view : V → A) (v : V)
    → IfOk result (λ v. outcome ≡ Ok (view v)) → Some v ≡ result_ok result → outcome ≡ Ok (view v)
was_read (Ok w) outcome view v h is = let same : v ≡ w = cc in rw same h
was_read (Err e) outcome view v h is = cc

-- if no value was read and memory did not run out, nothing can be read
pub was_not_read : {V A : Type 0} (result : Result V DeError) (outcome : Result A DeError) (takes : Type 0)
    → IfErr result (Refuses outcome takes) → (result ≡ Err Memory → ⊥) → None ≡ result_ok result
    → result_ok outcome ≡ None
was_not_read (Ok w) outcome takes h enough is = cc
was_not_read (Err Memory) outcome takes h enough is = absurd (enough refl)
was_not_read (Err (Msg m)) outcome takes h enough is = rw h refl
was_not_read (Err (Io k)) outcome takes h enough is = rw h refl
was_not_read (Err (Utf8 u)) outcome takes h enough is = rw h refl
was_not_read (Err (InvalidInput n)) outcome takes h enough is = rw h refl

-- if memory ran out, the read takes some
pub ran_out : {V A : Type 0} (result : Result V DeError) (outcome : Result A DeError) (takes : Type 0)
    → IfErr result (Refuses outcome takes) → result ≡ Err Memory → takes
ran_out (Ok w) outcome takes h is = absurd cc
ran_out (Err Memory) outcome takes h is = h
ran_out (Err (Msg m)) outcome takes h is = absurd cc
ran_out (Err (Io k)) outcome takes h is = absurd cc
ran_out (Err (Utf8 u)) outcome takes h is = absurd cc
ran_out (Err (InvalidInput n)) outcome takes h is = absurd cc

pub on_err : {V E : Type 0} (result : Result V E) (said : Type 0) → said → OnErr result said
on_err (Ok v) said is = tt
on_err (Err e) said is = is

-- the refusal of a step is that of the whole, which takes memory if the step does
pub step_refused : {V A B : Type 0} (result : Result V DeError) (e : DeError) (step : Result A DeError)
    (whole : Result B DeError) (takes more : Type 0) → IsErrAnd result (λ d. d ≡ e)
    → (step ≡ Err e → whole ≡ Err e) → (takes → more) → Refuses step takes e
    → IfErr result (Refuses whole more)
step_refused (Ok v) e step whole takes more is same so h = tt
step_refused (Err d) Memory step whole takes more is same so h = rw is (so h)
step_refused (Err d) (Msg m) step whole takes more is same so h = rw is (same h)
step_refused (Err d) (Io k) step whole takes more is same so h = rw is (same h)
step_refused (Err d) (Utf8 u) step whole takes more is same so h = rw is (same h)
step_refused (Err d) (InvalidInput n) step whole takes more is same so h = rw is (same h)

-- ---- payloads that have bytes

-- a list that is not empty has a payload
list_has_bytes : {V : Type 0} (read : List ℕ → Reading V) (payload : Option (List ℕ)) (all : List V)
    → list_found payload read ≡ Ok all → 0 < length all → HasBytes payload
unfolding elements_by
list_has_bytes read None all is some = absurd cc
list_has_bytes read (Some []) all is some = let none : all ≡ [] = cc in absurd (omega (arith, ap length none, some))
list_has_bytes read (Some (b ∷ s)) all is some = omega arith

pub some_groups : (attrs : AttributesRead CtrlAttr) (all : List (Nlattr Index (List ℕ)))
    → groups attrs ≡ Ok (map nlattr_view all) → 0 < length all → groups_take_memory attrs
some_groups attrs all is some = list_has_bytes _ (payload_where is_mcast_groups attrs) (map nlattr_view all) is
    (omega (arith, some, length-map all (λ (a : Nlattr Index (List ℕ)). nlattr_view a)))

-- and so has a group with a name
attrs_have_bytes : (group : List ℕ) (attrs : AttributesRead CtrlAttrMcastGrp)
    → attributes_in (type_of ctrl_attr_mcast_grp_of) group ≡ Ok attrs → group_name_takes_memory attrs
    → 0 < length group
unfolding elements_by
attrs_have_bytes [] attrs is name = let none : attrs ≡ [] = cc in absurd (rw none at name)
attrs_have_bytes (b ∷ s) attrs is name = omega arith

pub named_group : (group : Group) (attrs : AttributesRead CtrlAttrMcastGrp) → group_attrs group ≡ Ok attrs
    → group_name_takes_memory attrs → group_attrs_take_memory group
named_group group attrs is name = attrs_have_bytes group.1 attrs is name

-- ---- numbers

number_read : (n : ℕ) (payload : Option (List ℕ)) (v : ℕ) (rest : List ℕ)
    → read_found payload (number_at n) ≡ Ok (v, rest) → read_found payload (first_number n) ≡ Ok v
number_read n None v rest h = cc
number_read n (Some s) v rest h = rw h refl

number_unread : (n : ℕ) (payload : Option (List ℕ)) (e : DeError) → read_found payload (number_at n) ≡ Err e
    → result_ok (read_found payload (first_number n)) ≡ None
number_unread n None e h = refl
number_unread n (Some s) e h = rw h refl

never : (payload : Option (List ℕ)) → IsSomeAnd payload (λ _. ⊥) → ⊥
never None h = h
never (Some s) h = h

number_refused : (n : ℕ) (payload : Option (List ℕ)) (e : DeError)
    → Refuses (read_found payload (number_at n)) (IsSomeAnd payload (λ _. ⊥)) e
    → result_ok (read_found payload (first_number n)) ≡ None
number_refused n payload (Msg m) h = number_unread n payload _ h
number_refused n payload (Io k) h = number_unread n payload _ h
number_refused n payload (Utf8 u) h = number_unread n payload _ h
number_refused n payload (InvalidInput m) h = number_unread n payload _ h
number_refused n payload Memory h = absurd (never payload h)

-- the number at the front of a payload, or none; reading it takes no memory
pub number_found : (n : ℕ) (payload : Option (List ℕ)) (result : Result ℕ DeError)
    → IfOk result (ReadsFirst (read_found payload (number_at n)))
    → IfErr result (Refuses (read_found payload (number_at n)) (IsSomeAnd payload (λ _. ⊥)))
    → result_ok result ≡ result_ok (read_found payload (first_number n))
number_found n payload (Ok v) (rest, is) refused = rw (number_read n payload v rest is) refl
number_found n payload (Err e) value refused = rw (number_refused n payload e refused) refl
