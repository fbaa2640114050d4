-- The number and the port of a message.
use Rattle.std.specs.Prelude.{◌≡◌, ℕ, List, Ok}
use Rattle.neli_wire.specs.Bytes.{Reading}
use Rattle.neli_deliveries.specs.Deliveries.{Untyped}
use Rattle.neli_log.specs.declared.next.Address.{Address}

-- a message was read, before `rest`, with this number and this port
abbrev pub IsAddressOf : Reading Untyped → Address → List ℕ → Type 0
IsAddressOf reading a rest =
    (u : Untyped) × (reading ≡ Ok (u, rest)) × (a.number ≡ u.0.sequence_number) × (a.port ≡ u.0.port)
