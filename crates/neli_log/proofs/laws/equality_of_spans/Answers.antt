use Rattle.std.specs.Prelude.{◌≡◌, ◌&&◌, Bool, true, nat_eq, refl}
use Rattle.std.specs.Cmp.{first_so, second_so, unsigned_Decides}
use Rattle.std.specs.Cmp.Derive.{both_true}
use mathlib.Core.Path.{ap, sym, ◌∙◌}
use Rattle.neli_log.specs.declared.span.Span.{Span}
use Rattle.neli_log.proofs.laws.equality_of_spans.Goals as goal

abbrev same : Span → Span → Bool
same a b = nat_eq a.datagram b.datagram && (nat_eq a.start b.start && nat_eq a.end b.end)

apart : (a b : Span) → same a b ≡ true → a ≡ b
apart a b e =
    let later = second_so (nat_eq a.datagram b.datagram) _ e in
    λ i. record {
      datagram = (unsigned_Decides a.datagram b.datagram).0 (first_so (nat_eq a.datagram b.datagram) _ e) i;
      start = (unsigned_Decides a.start b.start).0 (first_so (nat_eq a.start b.start) _ later) i;
      end = (unsigned_Decides a.end b.end).0 (second_so (nat_eq a.start b.start) _ later) i;
    }

itself : (a : Span) → same a a ≡ true
itself a = both_true ((unsigned_Decides a.datagram a.datagram).1 refl)
    (both_true ((unsigned_Decides a.start a.start).1 refl) ((unsigned_Decides a.end a.end).1 refl))

pub returns : goal.returns
returns c = λ a b. (apart a b, λ e. ap (same a) (sym e) ∙ itself a)
