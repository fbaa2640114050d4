-- Consecutive datagrams, and the same bytes in other datagrams.
use Rattle.std.specs.Prelude.{◌≡◌, ⊤, ℕ, List, [], ◌∷◌, None}
use Rattle.std.specs.List.{flat_map}
use Rattle.std.specs.declared.alloc.Global.{Global}
use Rattle.std.specs.declared.vec.Vec.{Vec}
use Rattle.neli_wire.specs.Frames.{Layout}
use Rattle.neli_reader.specs.Agreement.{untyped_layout}
use Rattle.neli_reader.specs.Cuts.{cut_of}
use Rattle.neli_runs.specs.declared.command.Command.TheVariants as command
use Rattle.neli_runs.specs.declared.command.Outcome.TheVariants as outcome
use Rattle.neli_runs.specs.History.{History}

-- the bytes of a datagram
abbrev pub Bytes : Type 0
Bytes = Vec ℕ Global

-- bytes without a fault: whole messages, one after the other
abbrev pub IsWhole : {H V : Type 0} → Layout H V → List ℕ → Type 0
IsWhole layout b = (cut_of layout b).1 ≡ None

-- only the last of these datagrams may have a fault
abbrev pub AreWholeBeforeLast : List Bytes → Type 0
AreWholeBeforeLast [] = ⊤
AreWholeBeforeLast (b ∷ []) = ⊤
AreWholeBeforeLast (b ∷ c ∷ later) = IsWhole untyped_layout b.items × AreWholeBeforeLast (c ∷ later)

-- their bytes, one after the other
abbrev pub concatenation : List Bytes → List ℕ
concatenation bs = flat_map (λ b. b.items) bs

-- the history h, and after it these datagrams in their order, each to the same groups; the last is its latest event
abbrev pub history_with : {ST SP RT RP : Type 0} → List ℕ → List Bytes → History ST SP RT RP → History ST SP RT RP
history_with groups [] h = h
history_with groups (b ∷ later) h = history_with groups later ((command.Datagram b groups, outcome.Done) ∷ h)

-- the same bytes in other datagrams; in both lists only the last may have a fault
abbrev pub IsRegrouped : List Bytes → List Bytes → Type 0
IsRegrouped bs cs = AreWholeBeforeLast bs × AreWholeBeforeLast cs × (concatenation bs ≡ concatenation cs)
