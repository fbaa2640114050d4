-- Times of recordings, in nanoseconds since 1970.
use Rattle.std.specs.Prelude.{ℕ, ◌-◌, ◌*◌, ◌/◌, ◌^◌, nat_lt, if◌then◌else◌, Option, Some, None, option_and_then}

-- a number, if it has at most 64 bits
abbrev pub fitting : ℕ → Option ℕ
fitting n = if nat_lt n (2 ^ 64) then Some n else None

-- a clock's ticks in a second: a power of ten, or of two if the highest bit is set
abbrev pub ticks_a_second : ℕ → Option ℕ
ticks_a_second resolution =
    if nat_lt resolution 128 then fitting (10 ^ resolution) else fitting (2 ^ (resolution - 128))

-- the nanoseconds of so many ticks, rounded down
abbrev pub time_of : ℕ → ℕ → Option ℕ
time_of ticks resolution =
    option_and_then (λ a_second. fitting (ticks * 1000000000 / a_second)) (ticks_a_second resolution)
