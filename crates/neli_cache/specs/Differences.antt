-- What became of each object from one table to the next.
use Rattle.std.specs.Prelude.{ℕ, List, ◌++◌, Option, None, Some, drop, filter_map, if◌then◌else◌, is_some, option_map}
use Rattle.std.specs.Prelude.{◌≡◌}
use Rattle.std.specs.Borrow.{Bor}
use Rattle.std.specs.Option.{option_to_list}
use Rattle.std.specs.Str.{bytes_eq}
use Rattle.neli_cache.specs.declared.change.Change.{Change}
use Rattle.neli_cache.specs.declared.change.Change.TheVariants as became
use Rattle.neli_cache.specs.declared.difference.Changes.{Changes}
use Rattle.neli_cache.specs.Changes.{change_of}
use Rattle.neli_cache.specs.Tables.{AreKeyed, Objects, at}

-- a key, and what became of its object
abbrev pub Named : Type 0
Named = List ℕ × Change

abbrev pub named : Bor (List ℕ) × Change → Named
named c = (c.0.now, c.1)

-- of an entry of the table now, if it is new or was changed
abbrev pub changed_from : Objects → List ℕ × List ℕ → Option Named
changed_from before e = option_map (λ c. (e.0, c)) (change_of (at e.0 before) (Some e.1))

-- of an entry of the table before, if it is gone
abbrev pub gone_from : Objects → List ℕ × List ℕ → Option Named
gone_from now e = option_map (λ c. (e.0, c)) (if is_some (at e.0 now) then None else Some became.Gone)

-- of all of them: first those that are new or were changed, then those that are gone
abbrev pub changes_between : Objects → Objects → List Named
changes_between before now = filter_map (changed_from before) now ++ filter_map (gone_from now) before

-- those that are still to come
abbrev pub changes_left : Changes → List Named
changes_left c =
    filter_map (changed_from c.before.now) (drop c.next c.now.now)
    ++ filter_map (gone_from c.now.now) (drop c.next_before c.before.now)

-- ---- the law

-- what is told of the object with this key
abbrev pub told_of : List ℕ → List Named → List Change
told_of q cs = filter_map (λ c. if bytes_eq q c.0 then Some c.1 else None) cs

-- of each object, at any key, what became of it is told once, and nothing where it is the same
abbrev pub ChangesAreToldOnce : Type 0
ChangesAreToldOnce =
    (before now : Objects) (q : List ℕ) → AreKeyed before → AreKeyed now
    → told_of q (changes_between before now) ≡ option_to_list (change_of (at q before) (at q now))
