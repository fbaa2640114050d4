use Rattle.std.proofs.Common.{◌≡◌, ℕ, Bool, true, false, List, [], Option, Some, None, Ok, Err, drop, ap, ◌∙◌, rules}
use Rattle.std.specs.Prelude.{IfSome, if◌then◌else◌, nat_lt, length}
use Rattle.neli_wire.specs.declared.errors.DeError.{DeError}
use Rattle.neli_wire.specs.declared.errors.DeError.TheVariants.{InvalidInput}
use Rattle.neli_reader.specs.Answers.{after}
use Rattle.neli_lent.specs.Attributes.{attributes_at}
use Rattle.neli_lent.specs.Messages.{Lent, message_view}
use Rattle.neli_bench.specs.Walks.{IsSum, attributes_add, as_u64, lent_adds, type_and_length}
use Rattle.neli_bench.proofs.lent.message_adds.Goals as goal

which : (short : Bool) (e : DeError) (s rest : List ℕ) → (if short then Err e else Ok s) ≡ Ok rest → rest ≡ s
which true e s rest is = absurd cc
which false e s rest is = cc

adds : (n : ℕ) (m : Lent ℕ) (before rest : List ℕ) (sum : Option ℕ) → before ≡ [] → after n m.1 ≡ Ok rest
    → IfSome sum (IsSum (λ a. type_and_length a.0.kind a.1)
    (attributes_at (λ k. k) (record { before = before; rest = rest }))) → IfSome sum (λ t. t ≡ as_u64 (lent_adds n m))
adds n m before rest None first later is = search rules
adds n m before rest (Some t) first later is =
    let here : rest ≡ drop n m.1 = which (nat_lt (length m.1) n) (InvalidInput (length m.1)) (drop n m.1) rest later in
    is.1
    ∙ ap (λ (s : List ℕ). as_u64 (attributes_add (λ k. k)
    (attributes_at (λ k. k) (record { before = s; rest = rest })).0)) first
    ∙ ap (λ (s : List ℕ). as_u64 (attributes_add (λ k. k)
    (attributes_at (λ k. k) (record { before = []; rest = s })).0)) here

pub returns : goal.returns
returns g c = adds _ (message_view c.args.message.now) _ _ _ c.in-Ok.ensures.value.0 c.in-Ok.ensures.value.1
    c.attributes_add.ensures
