use Rattle.std.proofs.Common.{◌≡◌, take, map, length, sum_by}
use Rattle.std.specs.List.{flat_map}
use Rattle.neli_inputs.specs.Lines.{count_in, line_of}
use Rattle.neli_inputs.proofs.text.read_lines.Given as goal

-- the lines so far are read
abbrev pub invariant-loop-text : goal.invariant-loop-text
invariant-loop-text l = record {
  lines : l.lines.items ≡ map (λ t. (line_of l.addressed t.now).0) (take l.text-index l.texts);
  bytes : l.bytes.items ≡ flat_map (λ t. (line_of l.addressed t.now).1) (take l.text-index l.texts);
  counted : sum_by count_in l.lines.items ≡ length l.bytes.items;
}
