-- The bytes of a field.
use Rattle.std.specs.Prelude.{ℕ, ◌||◌, ◌&&◌, ◌==◌, Bool, true, false, nat_le, nat_lt, if◌then◌else◌}
use Rattle.std.specs.Prelude.{List, length, drop, slice_range, Option, Some, None}
use Rattle.std.specs.List.{before_first}
use Rattle.neli_tables.specs.declared.kind.Kind.{Kind}
use Rattle.neli_tables.specs.declared.kind.Kind.TheVariants as kind
use Rattle.neli_tables.specs.declared.number.Span.{Span}
use Rattle.neli_tables.specs.Lines.{LineSeen}
use Rattle.neli_tables.specs.declared.options.Options.{Options}
use Rattle.neli_tables.specs.Options.{options_of}

-- a field of this kind that is cut off has the bytes that are left
abbrev pub is_open : Option Kind → Bool
is_open (Some kind.Bytes) = true
is_open (Some kind.Pad) = true
is_open (Some kind.Text) = true
is_open (Some kind.Hardware) = true
is_open (Some kind.Ip) = true
is_open k = false

-- and so has one of several values
abbrev pub keeps_part : Options → Bool
keeps_part o = o.array || is_open o.kind

-- the bytes from one place up to another; or those that are left, where a part is kept
abbrev pub bytes_at : Bool → ℕ → ℕ → List ℕ → Option (List ℕ)
bytes_at is_part start stop bytes =
    if nat_le start stop && nat_le stop (length bytes) then Some (slice_range bytes start stop)
    else (if is_part && nat_lt start (length bytes) then Some (drop start bytes) else None)

-- a text in a structure ends before its first zero
abbrev pub before_zero : Option Kind → List ℕ → List ℕ
before_zero (Some kind.Text) bytes = before_first (λ b. b == 0) bytes
before_zero k bytes = bytes

abbrev pub option_before_zero : Option Kind → Option (List ℕ) → Option (List ℕ)
option_before_zero k None = None
option_before_zero k (Some bytes) = Some (before_zero k bytes)

abbrev pub span_bytes : Options → Option Span → List ℕ → Option (List ℕ)
span_bytes o None bytes = None
span_bytes o (Some span) bytes =
    option_before_zero o.kind (bytes_at (keeps_part o) span.first span.last bytes)

abbrev pub field_bytes_by : LineSeen → Options → List ℕ → Option (List ℕ)
field_bytes_by row o bytes = span_bytes o row.span bytes

-- the bytes of a field, if it has some in those of its structure
abbrev pub field_bytes : LineSeen → List ℕ → Option (List ℕ)
field_bytes row bytes = field_bytes_by row (options_of row) bytes
