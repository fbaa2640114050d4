use Rattle.std.proofs.Common.{◌≡◌, ◌<◌, ◌++◌, ◌∷◌, [], length, arith}
use Rattle.std.specs.Prelude.{map}
use Rattle.std.proofs.lemmas.List.{map_push}
use Rattle.neli_wire.proofs.Elements.{Spells-end, Spells-more, Spells-stuck, Spells-shorter, elements-refused}
use Rattle.neli_wire.proofs.lists.read_all.Goals as goal

pub returns-in-Err-clause-refused : goal.returns-in-Err-clause-refused
returns-in-Err-clause-refused g c =
    let lt : length c.loop-cursor.cursor.before < length c.args.bytes.now = omega arith in
    rw c.within_input.ensures (elements-refused g.T.FromBytes.read c.args.bytes.now
    (map g.T.FromBytes.view c.loop-cursor.items.items) c.loop-cursor.cursor _ c.in-Err.error c.loop-cursor.invariant
    lt c.in-Err.ensures.refused)

pub returns-then-position-start-clause-refused : goal.returns-then-position-start-clause-refused
returns-then-position-start-clause-refused g c =
    let lt : length c.loop-cursor.cursor.before < length c.args.bytes.now = omega arith in
    Spells-stuck g.T.FromBytes.read c.args.bytes.now (map g.T.FromBytes.view c.loop-cursor.items.items)
    c.loop-cursor.cursor c.loop-cursor.invariant (g.T.FromBytes.view c.in-Ok.item) c.from_bytes.new.cursor lt
    c.in-Ok.ensures.value c.in-Ok.ensures.moved (omega arith)

pub loop-cursor-smaller : goal.loop-cursor-smaller
loop-cursor-smaller g c =
    Spells-shorter g.T.FromBytes.read c.args.bytes.now
    (map g.T.FromBytes.view c.loop-cursor.items.items) c.loop-cursor.cursor c.loop-cursor.invariant
    (g.T.FromBytes.view c.in-Ok.item) c.from_bytes.new.cursor g.met.T.FromBytes.local c.in-Ok.ensures.value
    c.in-Ok.ensures.moved (omega arith)

pub loop-cursor-preserved : goal.loop-cursor-preserved
loop-cursor-preserved g c =
    let e : map g.T.FromBytes.view c.push.new.self.items
    ≡ map g.T.FromBytes.view c.loop-cursor.items.items ++ g.T.FromBytes.view c.in-Ok.item ∷ [] =
    rw c.in_ok-push.ensures.items (map_push _ c.loop-cursor.items.items c.in-Ok.item) in
    rw e (Spells-more g.T.FromBytes.read c.args.bytes.now
    (map g.T.FromBytes.view c.loop-cursor.items.items) c.loop-cursor.cursor c.loop-cursor.invariant
    (g.T.FromBytes.view c.in-Ok.item) c.from_bytes.new.cursor g.met.T.FromBytes.local c.in-Ok.ensures.value
    c.in-Ok.ensures.moved (omega arith))

pub returns-clause-value : goal.returns-clause-value
returns-clause-value g c = Spells-end g.T.FromBytes.read c.args.bytes.now
    (map g.T.FromBytes.view c.loop-cursor.items.items) c.loop-cursor.cursor c.loop-cursor.invariant (omega arith)
