use Rattle.std.proofs.Common.{arith, refl, Some, ◌≡◌, sym, ◌∙◌, ◌<◌, length, deque_len}
use Rattle.std.proofs.lemmas.Bool.Decides.{nat_tests}
use Rattle.neli_log.specs.Places.{place_of, readers_at}
use Rattle.neli_log.proofs.Waits.{awaited, unawaited, front_standing, eqb_refl}
use Rattle.neli_log.proofs.places.Places.is_awaited.Goals as goal

pub returns-in-Some-value_of-clause-yes : goal.returns-in-Some-value_of-clause-yes
returns-in-Some-value_of-clause-yes g c = λ t. (
  Some c.in-Number.n,
  c.in-Some-value_of.p,
  sym c.value_of.ensures ∙ c.in-Some-value_of.is,
  grind (arith, nat_tests),
  rw c.in-Number.is (eqb_refl c.in-Number.n),
)

pub returns-in-Some-front-clause-yes : goal.returns-in-Some-front-clause-yes
returns-in-Some-front-clause-yes g c = λ t.
    let s = c.args.self.now in let a = c.requires.at in
    let v : 0 < deque_len s.shared = c.in-Some-front.ensures.variant.0 refl in
    let some : 0 < length s.shared.items = omega (arith, s.shared.ok.0) in
    let is : readers_at s.shared.items s.caught_up 0 ≡ c.in-Some-front.s.now.readers =
    front_standing s.shared.items s.caught_up c.in-Some-front.s.now some c.in-Some-front.ensures.lookup in
    let up : 0 < readers_at s.shared.items s.caught_up 0 = grind (arith, nat_tests) in
    rw c.in-Numbers.is (awaited s.numbers.entries (place_of s)
    (λ q. refl) s.base s.shared_base s.caught_up a.0 a.1 s.entries.items s.links.items s.shared.items a.2 (a.3
    ∙ c.in-Numbers.is) c.requires.sound c.len.ensures.unique up)

pub returns-in-Some-front-clause-no : goal.returns-in-Some-front-clause-no
returns-in-Some-front-clause-no g c = λ t.
    let s = c.args.self.now in let a = c.requires.at in
    let v : 0 < deque_len s.shared = c.in-Some-front.ensures.variant.0 refl in
    let some : 0 < length s.shared.items = omega (arith, s.shared.ok.0) in
    let is : readers_at s.shared.items s.caught_up 0 ≡ c.in-Some-front.s.now.readers =
    front_standing s.shared.items s.caught_up c.in-Some-front.s.now some c.in-Some-front.ensures.lookup in
    let none : readers_at s.shared.items s.caught_up 0 ≡ 0 = grind (arith, nat_tests) in
    rw c.in-Numbers.is (unawaited s.numbers.entries (place_of s)
    (λ q. refl) s.base s.shared_base s.caught_up a.0 a.1 s.entries.items s.links.items s.shared.items a.2 (a.3
    ∙ c.in-Numbers.is) c.requires.sound none)
