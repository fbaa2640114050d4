use Rattle.std.proofs.Common.{◌<◌, length, refl, Ok}
use Rattle.std.proofs.lemmas.List.{map-id}
use Rattle.std.proofs.lemmas.Result.{err_from_is_err_and}
use Rattle.neli.specs.wire.Reading.{number_at}
use Rattle.neli.specs.wire.laws.Elements.{elements}
use Rattle.neli.specs.wire.laws.Reading.{refused_first}
use Rattle.example_body.specs.Watch.{watch_fields, watch_takes_memory}
use Rattle.example_body.proofs.watch.read_fields.Goals as goal

pub returns-in_err-levels-clause-refused : goal.returns-in_err-levels-clause-refused
unfolding watch_fields watch_takes_memory
returns-in_err-levels-clause-refused c =
    let p = err_from_is_err_and c.from_residual-in_err-levels.result c.from_residual-in_err-levels.ensures.1 in
    let rest = c.from_bytes.new.cursor.rest in
    let port = rw c.new-cursor.ensures.rest at c.in_ok-port.ensures.value in
    let levels = rw c.rest.ensures at c.in_err-levels.ensures.refused in
    rw (p.1, p.2, port)
    (refused_first (elements (number_at 4) rest) (λ found. Ok (record { port = c.in_ok-port.port; levels = found }))
    (0 < length rest) (0 < length rest) c.in_err-levels.field-0.0 levels (λ some. some))

pub returns-clause-value : goal.returns-clause-value
unfolding watch_fields
returns-clause-value c =
    let port = rw c.new-cursor.ensures.rest at c.in_ok-port.ensures.value in
    let levels = rw (c.rest.ensures, map-id) at c.in_ok-levels.ensures.value in
    rw (port, levels) refl
