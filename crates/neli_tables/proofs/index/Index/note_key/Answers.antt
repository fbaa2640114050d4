use Rattle.std.proofs.Common.{sym}
use Rattle.neli_tables.specs.Index.{finds}
use Rattle.neli_tables.proofs.Keyed.{noted_before, noted_here}
use Rattle.neli_tables.proofs.index.Index.note_key.Goals as goal

pub returns-in-Some : goal.returns-in-Some
returns-in-Some c = λ k. noted_before (finds c.args.self.now) c.args.key c.args.place k _ (sym c.in-Some.ensures)

pub returns : goal.returns
returns c = λ k.
    noted_here (finds c.args.self.now) c.args.key c.args.place k _ (sym c.in_default.ensures)
    (c.in_ok-insert.ensures.updates.0 k)
