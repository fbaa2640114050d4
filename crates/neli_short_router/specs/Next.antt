-- The result of a read, as one `Result`.
use Rattle.std.specs.Prelude.{Result, Ok, Err}
use Rattle.neli_deliveries.specs.Readings.{Item}
use Rattle.neli_reader.specs.RouterError.{RouterError}
use Rattle.neli_short_router.specs.declared.next.Next.{Next}
use Rattle.neli_short_router.specs.declared.next.Next.TheVariants as next

-- of an item: its message, or its error as such
abbrev pub next_of : {K P : Type 0} → Item K P → Result (Next K P) (RouterError K P)
next_of (Ok m) = Ok (next.Message m)
next_of (Err e) = Err e
