use Rattle.std.proofs.Common.{◌≡◌, true, take}
use Rattle.std.specs.List.{list_any}
use Rattle.neli_router.specs.Verdicts.{given_of, is_filtered, is_last_item, verdict}
use Rattle.neli_router.specs.laws.Verdicts.{gave, stops}
use Rattle.neli_router.proofs.items.progress_of.Given as goal

-- what is known of the items so far
abbrev pub invariant-loop-item : goal.invariant-loop-item
invariant-loop-item g l = record {
  verdict : l.progress.verdict ≡ verdict g.T.Constant.wire_number l.needs_ack true (take l.item-index l.items);
  filtered : l.progress.filtered ≡ is_filtered g.T.Constant.wire_number l.needs_ack true (take l.item-index l.items);
  finished : l.progress.finished ≡ list_any (is_last_item g.T.Constant.wire_number l.answering)
      (given_of g.T.Constant.wire_number l.needs_ack true (take l.item-index l.items));
  gave : l.progress.single_given ≡ gave g.T.Constant.wire_number l.needs_ack true (take l.item-index l.items);
  stops : l.progress.ended ≡ stops g.T.Constant.wire_number l.needs_ack true (take l.item-index l.items);
}
