use Rattle.std.proofs.Common.{◌≡◌, ◌+◌, ◌<◌, ◌^◌, length, drop}
use Rattle.neli_log.specs.Contents.{spans_of}
use Rattle.neli_log.proofs.handing.span_count.Given as goal

-- with the spans of the remaining entries, those counted are all
abbrev pub invariant-loop-entry : goal.invariant-loop-entry
invariant-loop-entry l = record {
  counted : l.count + length (spans_of (drop l.entry-index l.entries)) ≡ length (spans_of l.entries);
  small : length l.entries < 2 ^ 64;
}
