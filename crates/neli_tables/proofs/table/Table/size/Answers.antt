use Rattle.std.proofs.Common.{◌<◌, ◌≤◌, arith, length, map, sym}
use Rattle.neli_tables.specs.Lines.{line_view}
use Rattle.neli_tables.proofs.PassedRows.{size_here, size_past, size_within}
use Rattle.neli_tables.proofs.table.Table.size.Goals as goal

pub returns-then-section-len-clause-size : goal.returns-then-section-len-clause-size
returns-then-section-len-clause-size c =
    let sizes = c.self.inside.sizes in
    let within : c.args.section < length sizes.items = omega (arith, c.if-section-len.true, c.len.ensures, sizes.ok.0) in
    rw (sym c.self.view_is) (size_here (map line_view c.self.inside.lines.items) sizes.items c.args.section
    c.index.result.now c.self.invariant.5 within c.index.ensures)

pub returns-then-section-len-clause-within : goal.returns-then-section-len-clause-within
returns-then-section-len-clause-within c = λ some.
    let is = returns-then-section-len-clause-size c in
    let few = size_within c.args.self.now c.args.section (omega (arith, some, is)) in
    omega (arith, few, is)

pub returns-else-section-len-clause-size : goal.returns-else-section-len-clause-size
returns-else-section-len-clause-size c =
    let sizes = c.self.inside.sizes in
    let past : length sizes.items ≤ c.args.section = omega (arith, c.if-section-len.false, c.len.ensures, sizes.ok.0) in
    rw (sym c.self.view_is) (size_past (map line_view c.self.inside.lines.items) sizes.items c.args.section
    c.self.invariant.5 past)
