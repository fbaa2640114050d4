-- An error of the kernel, and what its acknowledgement says.
use Rattle.std.specs.Prelude.{ℕ, ◌==◌, if◌then◌else◌, List, [], ◌++◌, length, codes}
use Rattle.std.specs.Prelude.{Option, Some, None}
use Rattle.std.specs.Fmt.{decimal}
use Rattle.std.specs.Option.{option_map}
use Rattle.byteorder.specs.Endian.{little_number}
use Rattle.neli_errno.specs.Errnos.{Row, errno_of, errno_text}
use Rattle.neli_tables_walk.specs.Bodies.{BodySeen}
use Rattle.neli_tables_walk.specs.Controller.{first_payload}
use Rattle.neli_tables_walk.specs.declared.item.Step.{Step}
use Rattle.neli_tables_walk.specs.Breaches.{without_zero}
use Rattle.neli_tables_walk.specs.Names.{name_text}
use Rattle.neli_tables_check.specs.declared.place.Place.{Place}
use Rattle.neli_tables_check.specs.Offsets.{found_at}
use Rattle.neli_tables_check.specs.Paths.{path_text}

-- ---- what an acknowledgement says

-- its text: NLMSGERR_ATTR_MSG (1)
abbrev pub text_of : List ℕ → Option (List ℕ)
text_of attributes = option_map without_zero (first_payload 1 attributes)

-- the offset that four bytes are
abbrev pub offset_in : List ℕ → Option ℕ
offset_in bytes = if length bytes == 4 then Some (little_number 4 bytes) else None

abbrev pub found_by : BodySeen → Option ℕ → Option (List Step)
found_by request None = None
found_by request (Some offset) = found_at request offset

abbrev pub found_with : BodySeen → Option (List ℕ) → Option (List Step)
found_with request None = None
found_with request (Some bytes) = found_by request (offset_in bytes)

-- the path to the attribute of the request that it is about: NLMSGERR_ATTR_OFFS (2)
abbrev pub place_of : BodySeen → List ℕ → Option (List Step)
place_of request attributes = found_with request (first_payload 2 attributes)

-- ---- in words

abbrev pub error_by : Option Row → ℕ → List ℕ
error_by (Some row) number = errno_text row
error_by None number = codes "error " ++ decimal number

-- an error by its name and its meaning, or by its number
abbrev pub error_text : ℕ → List ℕ
error_text number = error_by (errno_of number) number

-- what the kernel said, after a colon
abbrev pub said_text : Option (List ℕ) → List ℕ
said_text None = []
said_text (Some text) = codes ": " ++ name_text text

-- the attribute, by its path
abbrev pub place_text : Place → List ℕ
place_text place = path_text place.table.now place.path.steps.items

abbrev pub about_text : Option (List ℕ) → List ℕ
about_text None = []
about_text (Some path) = codes ": " ++ path

-- all of it in one line
abbrev pub refusal_text : ℕ → Option (List ℕ) → Option (List ℕ) → List ℕ
refusal_text number text path = error_text number ++ (said_text text ++ about_text path)
