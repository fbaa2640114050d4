-- Laws of a watch, from those of its fields.
use Rattle.std.proofs.Common.{◌≡◌, ◌≢◌, ℕ, List, length, Ok, Err, ap, arith, length-append}
use Rattle.neli.specs.wire.Numbers.{little_bytes}
use Rattle.neli.specs.wire.laws.Lists.{both_written, both-no_memory, wire_all-length, wire_all-no_memory}
use Rattle.neli.specs.wire.laws.Lists.{elements-no_memory, map_refusal-no_memory, map_refusal-never_short}
use Rattle.neli.specs.wire.laws.Numbers.{count-unsigned}
use Rattle.neli.specs.wire.Bytes.{short}
use Rattle.neli.specs.wire.Reading.{number_at}
use Rattle.neli.specs.wire.laws.Elements.{elements}
use Rattle.neli.specs.wire.laws.Reading.{bind-not, number_at-no_memory}
use Rattle.neli.specs.wire.Writing.{wire_all}
use Rattle.neli.specs.wire.laws.Writing.{written-length, written-no_memory}
use Rattle.neli.specs.errors.DeError.TheVariants.{Memory}
use Rattle.neli.specs.errors.SerError.TheVariants as ser
use Rattle.example_body.specs.declared.watch.Watch.{Watch}
use Rattle.example_body.specs.Watch.{level_wire, watch_wire, watch_size, watch_fields, watch_of}

pub watch_wire-length : (w : Watch) (bytes : List ℕ) → watch_wire w ≡ Ok bytes → length bytes ≡ watch_size w
watch_wire-length w bytes e =
    let p = both_written (Ok (little_bytes 2 w.port)) (wire_all level_wire w.levels.items) bytes e in
    let port : length p.0 ≡ 2 = written-length (little_bytes 2 w.port) p.0 2 (count-unsigned 2 w.port) p.2 in
    let levels = wire_all-length level_wire (λ n. 4) (λ n b f. written-length (little_bytes 4 n) b 4
    (count-unsigned 4 n) f) w.levels.items p.1 p.3 in
    omega (arith, ap length p.4, length-append p.0 p.1, port, levels)

pub watch_wire-no_memory : (w : Watch) → watch_wire w ≢ Err ser.Memory
watch_wire-no_memory w =
    both-no_memory (Ok (little_bytes 2 w.port)) (wire_all level_wire w.levels.items)
    (written-no_memory (little_bytes 2 w.port))
    (wire_all-no_memory level_wire (λ n. written-no_memory (little_bytes 4 n)) w.levels.items)

watch_fields-no_memory : (s : List ℕ) → watch_fields s ≢ Err Memory
unfolding watch_fields
watch_fields-no_memory s =
    bind-not (number_at 2 s) _ Memory (number_at-no_memory 2 s)
    (λ port. bind-not (elements (number_at 4) port.1) _ Memory
    (elements-no_memory (number_at 4) (number_at-no_memory 4) port.1) (λ levels f. cc))

pub watch_of-no_memory : (s : List ℕ) → watch_of s ≢ Err Memory
watch_of-no_memory s = map_refusal-no_memory (length s) (watch_fields s) (watch_fields-no_memory s)

pub watch_of-never_short : (s : List ℕ) → watch_of s ≢ Err short
watch_of-never_short s = map_refusal-never_short (length s) (watch_fields s)
