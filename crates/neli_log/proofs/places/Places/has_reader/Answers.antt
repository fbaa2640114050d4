use Rattle.std.proofs.Common.{Some, arith, ◌<◌, ◌∙◌, refl, sym, ap, is_some}
use Rattle.std.proofs.lemmas.Bool.Decides.{nat_tests}
use Rattle.neli_log.specs.Places.{pending_of, rest}
use Rattle.neli_log.specs.Routes.{items_for}
use Rattle.neli_log.proofs.Readers.{number_reads, numbers_read, read_numbers, reads_number}
use Rattle.neli_log.proofs.places.Places.has_reader.Goals as goal

pub returns-in-Number : goal.returns-in-Number
returns-in-Number g c =
    let s = c.args.self.now in
    let there = c.is_some-in-Number.ensures ∙ ap is_some c.value_of.ensures in
    rw c.in-Number.is (
      (λ t. number_reads s.numbers (λ q p. items_for (Some q) (rest s.base s.entries.items p)) (pending_of s)
          (λ q. refl) c.in-Number.n (sym there ∙ t)),
      (λ r. there ∙ reads_number s.numbers (λ q p. items_for (Some q) (rest s.base s.entries.items p))
          (pending_of s) (λ q. refl) c.in-Number.n r),
    )

pub returns-in-Numbers : goal.returns-in-Numbers
returns-in-Numbers g c =
    let s = c.args.self.now in
    rw c.in-Numbers.is (
      (λ t. (let up : 0 < c.len.result = grind (arith, nat_tests, t) in
          numbers_read s.numbers (λ q p. items_for (Some q) (rest s.base s.entries.items p)) (pending_of s) (λ q. refl)
          (omega (arith, up, c.len.ensures.len)))),
      (λ r. (let up = read_numbers s.numbers (λ q p. items_for (Some q) (rest s.base s.entries.items p)) (pending_of s)
          (λ q. refl) r in let down : 0 < c.len.result = omega (arith, up, c.len.ensures.len) in
          grind (arith, nat_tests, down))),
    )
