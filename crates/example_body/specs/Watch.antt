-- A port and its levels on the wire.
use Rattle.std.specs.Prelude.{ℕ, ◌+◌, ◌<◌, List, Ok, Result, length, sum_by}
use Rattle.neli.specs.wire.Numbers.{little_bytes}
use Rattle.neli.specs.errors.DeError.{DeError}
use Rattle.neli.specs.wire.Reading.{◌>>=◌, IfRead, number_at, map_refusal, refusal_within}
use Rattle.neli.specs.wire.laws.Elements.{elements}
use Rattle.neli.specs.wire.Writing.{Wire, ◌+++◌, wire_all}
use Rattle.example_body.specs.declared.watch.Watch.{Watch}

-- the view of a watch
pub record Seen : Type 0 where
  pub port : ℕ
  pub levels : List ℕ

-- the fields of a watch
abbrev pub seen : Watch → Seen
seen w = record { port = w.port; levels = w.levels.items }

-- the bytes of a number of four bytes
abbrev pub level_wire : ℕ → Wire
level_wire n = Ok (little_bytes 4 n)

-- the port, and then the levels
abbrev pub watch_wire : Watch → Wire
watch_wire w = Ok (little_bytes 2 w.port) +++ wire_all level_wire w.levels.items

-- the number of its bytes
abbrev pub watch_size : Watch → ℕ
watch_size w = 2 + sum_by (λ n. 4) w.levels.items

-- the port, and then levels to the end
unfoldable pub watch_fields : List ℕ → Result Seen DeError
watch_fields s =
    number_at 2 s >>= λ port.
    (elements (number_at 4) port.1 >>= λ levels. Ok (record { port = port.0; levels = levels }))

-- it has levels, which take memory
unfoldable pub watch_takes_memory : List ℕ → Type 0
watch_takes_memory s = IfRead (number_at 2 s) (λ port rest. 0 < length rest)

-- the watch in a whole byte list
abbrev pub watch_of : List ℕ → Result Seen DeError
watch_of s = map_refusal (refusal_within (length s)) (watch_fields s)
