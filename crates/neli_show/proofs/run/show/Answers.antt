use Rattle.std.proofs.Common.{ℕ, List}
use Rattle.std.specs.Option.{option_map}
use Rattle.neli_show.specs.Runs.{IsShown}
use Rattle.neli_show.proofs.Shown.{input-json, of_the_input, shown-lines}
use Rattle.neli_show.proofs.run.show.Goals as goal

pub returns-in-Ok-show_bytes-clause-shown : goal.returns-in-Ok-show_bytes-clause-shown
returns-in-Ok-show_bytes-clause-shown g c = λ output input memory.
    of_the_input _ _ _
    (λ (bytes : List ℕ). IsShown c.args.request (option_map (λ w. w.now) c.args.word) bytes
    (g.W.Write.contents c.args.out.now) (g.W.Write.contents c.show_bytes.new.out)
    c.in-Ok-show_bytes.status)
    c.new-bytes.ensures.items c.in-Ok.ensures.bytes (c.in-Ok-show_bytes.ensures.shown output)

pub returns-in-Ok-show_bytes-clause-json : goal.returns-in-Ok-show_bytes-clause-json
returns-in-Ok-show_bytes-clause-json g c = λ json output.
    let bytes = c.read_to_end.new.buf.items in
    let old = g.W.Write.contents c.args.out.now in
    let new = g.W.Write.contents c.show_bytes.new.out in
    input-json bytes old new (shown-lines c.args.request (option_map (λ w. w.now) c.args.word) bytes
    old new
    c.in-Ok-show_bytes.status json (c.in-Ok-show_bytes.ensures.shown output))
