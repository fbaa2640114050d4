use Rattle.std.proofs.Common.{◌≡◌, length, None}
use Rattle.neli_wire.specs.Place.{whole}
use Rattle.neli_reader.specs.Agreement.{untyped_layout}
use Rattle.neli_reader.specs.Cuts.{cut_of}
use Rattle.neli_log.specs.Places.{pending_of}
use Rattle.neli_log.specs.Staged.{AreStaged, cut_left}
use Rattle.neli_log.proofs.staging.stage_messages.Given as goal

abbrev pub decreases-loop-cursor : goal.decreases-loop-cursor
decreases-loop-cursor l = length l.cursor.rest

-- all before the cursor is staged
abbrev pub invariant-loop-cursor : goal.invariant-loop-cursor
invariant-loop-cursor l = record {
  whole : whole l.cursor ≡ l.fn.bytes;
  staged : AreStaged (pending_of l.places) l.port l.serial l.fn.bytes l.groups
      (cut_of untyped_layout l.fn.bytes) l.entries.items (length l.cursor.before) (cut_left l.cursor.rest None);
}
