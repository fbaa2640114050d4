-- The attribute at an offset of a message.
use Rattle.std.specs.Prelude.{ℕ, ◌-◌, nat_lt, if◌then◌else◌, List, Option, Some, None}
use Rattle.neli_tables_walk.specs.declared.generic.GenericHeader.{GenericHeader}
use Rattle.neli_tables_walk.specs.Bodies.{BodySeen, body_context, body_shape}
use Rattle.neli_tables_walk.specs.declared.item.Step.{Step}
use Rattle.neli_tables_walk.specs.declared.shape.Shape.{Shape}
use Rattle.neli_tables_walk.specs.declared.shape.Shape.TheVariants.{Nest}
use Rattle.neli_tables_walk.specs.Found.{path_at}
use Rattle.neli_tables_walk.specs.Shapes.{ContextSeen}

abbrev pub start_after : Option GenericHeader → ℕ
start_after None = 16
start_after (Some h) = 20

-- the offset of a body in its message: it follows the message's header, and that of generic netlink
abbrev pub body_start : BodySeen → ℕ
body_start body = start_after body.2

abbrev pub path_in : Option ContextSeen → Shape → List ℕ → ℕ → Option (List Step)
path_in (Some context) (Nest nest) bytes offset = path_at context nest bytes offset
path_in context s bytes offset = None

-- the path to an offset, which counts from the message's first byte
abbrev pub found_at : BodySeen → ℕ → Option (List Step)
found_at body offset =
    if nat_lt offset (body_start body) then None
    else path_in (body_context body) (body_shape body) body.3 (offset - body_start body)
