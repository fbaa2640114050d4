use Rattle.std.proofs.Common.{◌<◌, ◌≤◌, ◌∙◌, arith, drop, length, length-drop, sym}
use Rattle.std.proofs.lemmas.List.{take_rest}
use Rattle.neli_inputs.proofs.Blocks.{items-more}
use Rattle.neli_inputs.proofs.pcapng.read_pcapng.Goals as goal

pub loop-place-preserved : goal.loop-place-preserved
loop-place-preserved c =
    let file = c.args.file.now in
    let place = c.loop-place.place in
    let all = take_rest file place in
    let long = length-drop place file in
    let large : 0 < c.in-Ok.size = omega (arith, c.in-Ok.ensures.some) in
    let within : c.in-Ok.size ≤ length (drop place file) = rw all at c.in-Ok.ensures.within.1 in record {
      within = omega (arith, within, long, c.loop-place-test.true);
      items =
          items-more c.loop-place.order c.in-Ok.here c.loop-place.interfaces.items c.describe.new.interfaces.items _
          c.loop-place.items.items c.take_packet.new.items.items place c.in-Ok.size file
          (omega (arith, long, c.loop-place-test.true)) large
          (rw all at (sym c.front.ensures.value ∙ c.in-Ok.is))
          (rw all at c.in_ok-describe-in-Ok.ensures)
          (rw (all, c.deref.ensures.value) at c.in_ok-take_packet-in-Ok.ensures)
          c.loop-place.invariant.items;
    }
