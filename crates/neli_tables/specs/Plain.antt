-- Names that are printed as they stand.
use Rattle.std.specs.Prelude.{ℕ, ◌&&◌, ◌==◌, nat_lt, Bool, not, if◌then◌else◌, List, Option, Some, None}
use Rattle.std.specs.Borrow.{Bor}
use Rattle.std.specs.List.{list_all}
use Rattle.std.specs.Option.{option_map}
use Rattle.std.specs.Str.{is_utf8}
use Rattle.neli_tables.specs.Lines.{LineSeen}

-- a byte is a printing character of ASCII that needs no escape: neither a quote nor a reverse solidus
abbrev pub is_plain : ℕ → Bool
is_plain b = nat_lt 31 b && (nat_lt b 127 && (not (b == 34) && not (b == 92)))

-- the name of a line, where all its bytes are such
abbrev pub plain_name : LineSeen → Option (List ℕ)
plain_name line =
    if list_all is_plain line.name && is_utf8 line.name then Some line.name else None

-- the bytes of a name that is kept
abbrev pub name_view : Option (Bor (List ℕ)) → Option (List ℕ)
name_view name = option_map (λ (text : Bor (List ℕ)). text.now) name
