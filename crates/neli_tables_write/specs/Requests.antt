-- Messages that JSON asks for.
use Rattle.std.specs.Prelude.{◌≡◌, ℕ, true, List, codes, slice_get, Option, Some, None, option_and_then}
use Rattle.std.specs.Option.{option_map}
use Rattle.serde_json.specs.Data.{Data}
use Rattle.serde_json.specs.Find.{as_str, get}
use Rattle.neli_tables.specs.declared.tables.Tables.{Tables}
use Rattle.neli_tables.specs.Families.{Lines}
use Rattle.neli_tables.specs.Lines.{LineSeen}
use Rattle.neli_reader.specs.Headers.{flags_of}
use Rattle.neli_tables_walk.specs.Bodies.{BodySeen, body_in, body_items}
use Rattle.neli_tables_write.specs.declared.request.Written.{Written}
use Rattle.neli_tables_write.specs.Asked.{AskedSeen, says}

-- the name of the message that an object is
abbrev pub asked_name : Data → Option (List ℕ)
asked_name value = option_and_then as_str (get (codes "name") value)

abbrev pub name_of : LineSeen → List ℕ
name_of line = line.name

abbrev pub name_at : Option Lines → Option ℕ → Option (List ℕ)
name_at (Some table) (Some line) = option_map name_of (slice_get table line)
name_at table line = None

-- the name of the line that a body's message has
abbrev pub message_name : BodySeen → Option (List ℕ)
message_name body = name_at body.0 body.1

-- the body of a message of a protocol, as the tables read it
abbrev pub body_of : Tables → ℕ → Written → BodySeen
body_of tables protocol w = body_in tables
    (record { protocol = protocol; message_type = w.message_type; flags = flags_of w.flags }) w.payload.items

-- the tables read a message as one of this name, and the walk over it gives what was asked for, one by one
abbrev pub IsMessage : Tables → ℕ → List ℕ → Written → Type 0
IsMessage tables protocol name w =
    (message_name (body_of tables protocol w) ≡ Some name)
    × ((asked : List AskedSeen) × (says (body_items (body_of tables protocol w)) asked ≡ true))

-- the name is that of the member `name`
abbrev pub IsMessageOf : Tables → ℕ → Data → Written → Type 0
IsMessageOf tables protocol value w =
    (name : List ℕ) × (asked_name value ≡ Some name) × IsMessage tables protocol name w
