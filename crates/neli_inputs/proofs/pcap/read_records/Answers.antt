use Rattle.std.proofs.Common.{arith, length-drop}
use Rattle.std.proofs.lemmas.List.{take_rest}
use Rattle.neli_inputs.proofs.Records.{AreRecords-append}
use Rattle.neli_inputs.proofs.pcap.read_records.Goals as goal

pub loop-place-preserved : goal.loop-place-preserved
loop-place-preserved c = (
  omega (arith, c.end_in-place.ensures.within, length-drop c.loop-place.place c.args.file.now),
  rw (
    c.in_ok-push.ensures.items,
    c.packet_in-packet.ensures,
    c.end_in-place.ensures.value,
    take_rest c.args.file.now c.loop-place.place,
  ) (AreRecords-append c.args.records c.args.file.now 24 _ c.loop-place.place c.loop-place.invariant.1
      c.loop-place-test.true),
)
