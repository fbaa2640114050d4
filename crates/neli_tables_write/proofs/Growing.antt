-- Messages of which more is asked.
use Rattle.std.proofs.Common.{◌≡◌, ◌∙◌, ℕ, List, [], ◌∷◌, ◌++◌, length, map, take, sym, ap, append_assoc}
use Rattle.std.proofs.lemmas.List.{append-nil, map-append, take-map, take_at}
use Rattle.neli_tables_write.specs.declared.asked.Asked.{Asked}
use Rattle.neli_tables_write.specs.Asked.{AskedSeen, asked_view}
use Rattle.neli_tables_write.specs.Messages.{Grows, MessageSeen}

abbrev pub with_asked : MessageSeen → List AskedSeen → MessageSeen
with_asked m asked = record m { asked = asked }

pub grows_not : (m : MessageSeen) → Grows m m
grows_not m = ([], ap (with_asked m) (sym (append-nil m.asked)))

pub grows_then : (a b c : MessageSeen) → Grows a b → Grows b c → Grows a c
grows_then a b c one two = (
  one.0 ++ two.0,
  two.1 ∙ ap (λ (m : MessageSeen). record m { asked = m.asked ++ two.0 }) one.1
      ∙ ap (with_asked a) (append_assoc a.asked one.0 two.0),
)

-- what was asked for later is given up
pub given_back : (old new : MessageSeen) (count : ℕ) → Grows old new → count ≡ length old.asked
    → record new { asked = take count new.asked } ≡ old
given_back old new count more is =
    ap (λ (m : MessageSeen). record m { asked = take count m.asked }) more.1
    ∙ ap (with_asked old) (take_at old.asked more.0 count (sym is))

-- what was asked for, and one more
pub grows_by : (m : MessageSeen) (items new : List Asked) (x : Asked) → new ≡ items ++ x ∷ []
    → m.asked ≡ map asked_view items → Grows m (with_asked m (map asked_view new))
grows_by m items new x is was = (
  asked_view x ∷ [],
  ap (with_asked m) (ap (map asked_view) is ∙ map-append asked_view items (x ∷ [])
      ∙ ap (λ (l : List AskedSeen). l ++ asked_view x ∷ []) (sym was)),
)

-- the first of what was asked for
pub front_seen : (count : ℕ) (items new : List Asked) → new ≡ take count items
    → map asked_view new ≡ take count (map asked_view items)
front_seen count items new is = ap (map asked_view) is ∙ sym (take-map asked_view count items)
