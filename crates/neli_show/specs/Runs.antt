-- How a run ends.
use Rattle.std.specs.Prelude.{◌≡◌, ℕ, Bool, true, false, List, [], ◌∷◌, ◌++◌, find, map, codes}
use Rattle.std.specs.Prelude.{string_bytes, Option, Some, None, is_some, Result, Ok, Err}
use Rattle.std.specs.Io.KnownBytes.{Appends}
use Rattle.std.specs.IoError.{error_kind}
use Rattle.std.specs.Option.{ok_or}
use Rattle.std.specs.declared.alloc.Global.{Global}
use Rattle.std.specs.declared.io.Error.{Error}
use Rattle.std.specs.declared.io.ErrorKind.{ErrorKind}
use Rattle.std.specs.declared.io.ErrorKind.TheVariants.{OutOfMemory}
use Rattle.std.specs.declared.string.String.{String}
use Rattle.std.specs.declared.vec.Vec.{Vec}
use Rattle.neli_inputs.specs.Inputs.{IsInput}
use Rattle.neli_inputs.specs.declared.item.Item.{Item}
use Rattle.neli_tables.specs.declared.tables.Tables.{Tables}
use Rattle.neli_show.specs.declared.request.Request.{Request}
use Rattle.neli_show.specs.declared.request.Command.{Command}
use Rattle.neli_show.specs.declared.run.Status.{Status}
use Rattle.neli_show.specs.declared.run.Status.TheVariants as status
use Rattle.neli_show.specs.Families.{family_in}
use Rattle.neli_show.specs.Learnt.{AreTables}
use Rattle.neli_show.specs.Lines.{is_whole_input}
use Rattle.neli_show.specs.Parts.{input_by}
use Rattle.neli_show.specs.Requests.{command_in}

-- the exit status
abbrev pub status_code : Status → ℕ
status_code status.Whole = 0
status_code status.Fault = 1
status_code status.NoInput = 1
status_code status.NoOutput = 1
status_code status.Usage = 2
status_code status.Memory = 3

-- the message about it on standard error
abbrev pub complaint_text : Status → Option (List ℕ)
complaint_text status.Whole = None
complaint_text status.Fault = None
complaint_text status.NoInput = Some (codes "neli_show: the input cannot be read")
complaint_text status.NoOutput = Some (codes "neli_show: the output cannot be written")
complaint_text status.Usage =
    Some (codes
    "usage: neli_show [--json | --color[=WHEN]] [route | connector | generic[:FAMILY=ID] | NUMBER] < FILE (--help says more)")
complaint_text status.Memory = Some (codes "neli_show: out of memory")

-- a message in a line of its own, or nothing
abbrev pub complaint_line : Option (List ℕ) → List ℕ
complaint_line None = []
complaint_line (Some text) = text ++ 10 ∷ []

-- the status if the input failed: memory ran out, or it cannot be read
abbrev pub input_status : ErrorKind → Status
input_status OutOfMemory = status.Memory
input_status kind = status.NoInput

-- the status if the words were not read: memory ran out, or they are not accepted
abbrev pub unread_status : ErrorKind → Status
unread_status OutOfMemory = status.Memory
unread_status kind = status.Usage

-- the command in the words, or else the status of a run that prints nothing; whether the output is a terminal
abbrev pub asked_in : Bool → Result (Vec (String Global) Global) Error → Result Command Status
asked_in terminal (Ok words) = ok_or (command_in terminal (map string_bytes words.items)) status.Usage
asked_in terminal (Err error) = Err (unread_status (error_kind error))

-- the first word that names a family and its number
abbrev pub family_word : Result (Vec (String Global) Global) Error → Option (List ℕ)
family_word (Ok words) = find (λ word. is_some (family_in word)) (map string_bytes words.items)
family_word (Err error) = None

-- the status of a run that printed its input: it is only messages, or not
abbrev pub printed_status : Bool → Status
printed_status true = status.Whole
printed_status false = status.Fault

-- what a run with this request writes of an input, and how it ends: the input's datagrams and what
-- is none, as text or JSON by the tables that are built in and the numbers of families that the
-- input has, of which the word names one
abbrev pub IsShown : Request → Option (List ℕ) → List ℕ → Option (List ℕ) → Option (List ℕ) → Status
    → Type 0
IsShown request word input old new end =
    (bytes : List ℕ) × (items : List Item) × (tables : Tables) × IsInput input bytes items
    × AreTables word request.protocol bytes items tables
    × Appends old new (input_by request.output tables request.protocol bytes items)
    × (end ≡ printed_status (is_whole_input bytes items))
