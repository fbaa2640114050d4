-- The receivers of an entry.
use Rattle.std.proofs.Common.{ap, ℕ, ◌≡◌, ◌<◌, ◌∙◌, true, List, [], ◌∷◌, length, Option, Some, None}
use Rattle.std.proofs.Common.{refl, sym, arith}
use Rattle.std.proofs.Common.{nat_eq, is_some, option_map}
use Rattle.std.specs.HashMap.{HashMap, get}
use Rattle.std.specs.Map.{lookup}
use Rattle.neli_log.specs.declared.entry.Route.TheVariants.{Number, Numbers}
use Rattle.neli_log.specs.declared.place.Place.{Place}
use Rattle.neli_log.specs.Places.{HasReader}
use Rattle.neli_log.specs.Routes.{leads}
use Rattle.neli_log.proofs.Waits.{eqb_refl, eqb_same}
use Rattle.neli_log.proofs.Adds.{first_open}

module _ {S T : Type 0} (m : HashMap ℕ Place S) (f : ℕ → Place → List T) (pending : Option ℕ
    → Option (List T)) (pending_is : (q : ℕ) → pending (Some q) ≡ option_map (f q) (get nat_eq m q)) where
  some_mapped : (g : Place → List T) (o : Option Place) → is_some (option_map g o) ≡ is_some o
  some_mapped g None = refl
  some_mapped g (Some p) = refl

  some_pending : (q : ℕ) → is_some (pending (Some q)) ≡ is_some (get nat_eq m q)
  some_pending q = ap is_some (pending_is q) ∙ some_mapped (f q) (get nat_eq m q)

  pub number_reads : (n : ℕ) → is_some (get nat_eq m n) ≡ true → HasReader pending (Number n)
  number_reads n h = (Some n, some_pending n ∙ h, eqb_refl n)

  pub reads_number : (n : ℕ) → HasReader pending (Number n) → is_some (get nat_eq m n) ≡ true
  reads_number n r = by r.0 r.1 r.2
    where
      by : (w : Option ℕ) → is_some (pending w) ≡ true → leads w (Number n) ≡ true → is_some (get nat_eq m n) ≡ true
      by None is t = cc
      by (Some q) is t = let same : n ≡ q = eqb_same n q t in rw same (sym (some_pending q) ∙ is)

  pub numbers_read : 0 < length m.entries → HasReader pending Numbers
  numbers_read h = let o = first_open m.entries h in (Some o.0, some_pending o.0 ∙ ap is_some o.2, refl)

  pub read_numbers : HasReader pending Numbers → 0 < length m.entries
  read_numbers r = by r.0 r.1 r.2
    where
      found_in : (es : List (ℕ × Place)) (q : ℕ) → is_some (lookup (nat_eq q) es) ≡ true → 0 < length es
      found_in [] q h = cc
      found_in (e ∷ es) q h = omega arith

      by : (w : Option ℕ) → is_some (pending w) ≡ true → leads w Numbers ≡ true → 0 < length m.entries
      by None is t = cc
      by (Some q) is t = found_in m.entries q (sym (some_pending q) ∙ is)
