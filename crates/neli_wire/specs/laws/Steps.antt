-- Readings step by step: the header of a frame first, and then what it states. The laws of frames tie them to
-- readings by places.
use Rattle.std.specs.Prelude.{ℕ, ◌-◌, ◌≤◌, List, Result, Ok, Err, nat_lt, if◌then◌else◌}
use Rattle.neli_wire.specs.Bytes.{Reading, bytes_at}
use Rattle.neli_wire.specs.declared.errors.DeError.{DeError}
use Rattle.neli_wire.specs.declared.errors.DeError.TheVariants.{InvalidInput}
use Rattle.neli_wire.specs.Reading.{◌>>=◌, IfRead, exact_reading, exact_takes_memory}
use Rattle.neli_wire.specs.Sizes.{align}

-- the payload and the padding after a header whose length is known
abbrev pub padded_payload_at : {V : Type 0} → (List ℕ → Result V DeError) → ℕ → ℕ → List ℕ → Reading V
padded_payload_at payload_of size len s =
    if nat_lt len size then Err (InvalidInput len)
    else (exact_reading payload_of (len - size) s >>= λ p. (bytes_at (align len - len) p.1 >>= λ q. Ok (p.0, q.1)))

-- a header, and then the payload that it states
abbrev pub header_then : {H V : Type 0} → (List ℕ → Reading H) → (H → ℕ) → ℕ → (H → List ℕ → Result V DeError) → List ℕ
    → Reading (H × V)
header_then header_at length_of size payload_of s =
    header_at s >>= λ h. (padded_payload_at (payload_of h.0) size (length_of h.0) h.1 >>= λ v. Ok ((h.0, v.0), v.1))

-- there is enough after the header for the payload, and reading it takes memory
abbrev pub padded_payload_takes_memory : (List ℕ → Type 0) → ℕ → ℕ → List ℕ → Type 0
padded_payload_takes_memory takes size len s = (size ≤ len) × exact_takes_memory takes (len - size) s

-- the same with the header
abbrev pub header_then_takes_memory : {H : Type 0} → (List ℕ → Reading H) → (H → ℕ) → ℕ → (H → List ℕ → Type 0) → List ℕ
    → Type 0
header_then_takes_memory header_at length_of size takes s =
    IfRead (header_at s) (λ h rest. padded_payload_takes_memory (takes h) size (length_of h) rest)
