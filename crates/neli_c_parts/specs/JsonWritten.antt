-- What is written of an object of JSON.
use Rattle.std.specs.Prelude.{⊤, ◌≡◌, ◌≢◌, ℕ, ℤ, List, ◌++◌, codes, Some, None, Result, Ok, Err, IsUtf8}
use Rattle.std.specs.Fmt.{decimal}
use Rattle.std.specs.Option.{option_map}
use Rattle.std.specs.String.{string_bytes}
use Rattle.serde_json.specs.Data.{Data}
use Rattle.serde_json.specs.declared.error.Error.{Error}
use Rattle.serde_json.specs.Errors.{IsMemory}
use Rattle.serde_json.specs.Read.{read}
use Rattle.neli_wire.specs.Writing.{Wire}
use Rattle.neli_tables_write.specs.declared.refusal.Refusal.{Refusal}
use Rattle.neli_tables_write.specs.declared.request.Written.{Written}
use Rattle.neli_tables_write.specs.Refusals.{refusal_text}
use Rattle.neli_tables_write.specs.Requests.{IsMessageOf}
use Rattle.neli_c_parts.specs.declared.families.Families.{Families}
use Rattle.neli_c_parts.specs.declared.writing.NoJson.{NoJson as NoJsonAt}
use Rattle.neli_c_parts.specs.declared.writing.Unwritten.{Unwritten}
use Rattle.neli_c_parts.specs.declared.writing.Unwritten.TheVariants.{Memory, NoJson, Refused}
use Rattle.neli_c_parts.specs.Asked.{WritesAnswer, notification_wire}
use Rattle.neli_c_parts.specs.Codes.{bad_length, memory, violation}
use Rattle.neli_c_parts.specs.Named.{IsWritten}

-- ---- what is meant

-- the text is an object of JSON, and the tables read the message as one of its name, over which the walk gives what was
-- asked for
abbrev pub IsOfText : Families → ℕ → List ℕ → Written → Type 0
IsOfText s protocol text w = (value : Data) × (read text ≡ Some value) × IsMessageOf s.tables protocol value w

-- no JSON is called so that is some, and no object refused that is not read; else memory ran out
abbrev pub IsWhy : List ℕ → Unwritten → Type 0
IsWhy text (NoJson at) = IsUtf8 text → read text ≡ None
IsWhy text (Refused r) = (value : Data) × (read text ≡ Some value)
IsWhy text Memory = ⊤

-- what a text is made into
abbrev pub IsMade : Families → ℕ → List ℕ → Result Written Unwritten → Type 0
IsMade s protocol text (Ok w) = IsOfText s protocol text w
IsMade s protocol text (Err why) = IsWhy text why

-- an error of reading is told as one, and a refusal of what was read as one
abbrev pub TellsUnread : Error → Unwritten → Type 0
TellsUnread error (NoJson at) = ¬ IsMemory error
TellsUnread error (Refused r) = ⊥
TellsUnread error Memory = ⊤

abbrev pub TellsRefused : Unwritten → Type 0
TellsRefused (NoJson at) = ⊥
TellsRefused why = ⊤

-- the bytes of a message, as one frame: its header, its payload, and padding
abbrev pub message_wire : Written → Wire
message_wire w = notification_wire w.message_type w.flags w.sequence w.port w.payload.items

-- ---- in words

-- the text is no JSON from here on
abbrev pub no_json_text : NoJsonAt → List ℕ
no_json_text at = codes "no JSON at line " ++ (decimal at.line ++ (codes ", column " ++ decimal at.column))

abbrev pub refused_text : Refusal → List ℕ
refused_text r = refusal_text (string_bytes r.path) r.why (option_map (λ name. name.now) r.nearest)

-- ---- what the call answers

-- why it is refused is printed; a text that could not be written leaves `size` as it was
abbrev pub PrintsWhy : ℤ → List ℕ → List ℕ → List ℕ → ℕ → ℕ → Type 0
PrintsWhy code text old new size size' =
    (code ≢ bad_length → (code ≡ violation) × IsWritten text old new size')
    × (code ≡ bad_length → size' ≡ size)

abbrev pub GivesWhy : ℤ → Unwritten → List ℕ → List ℕ → ℕ → ℕ → Type 0
GivesWhy code Memory old new size size' = (code ≡ memory) × (new ≡ old) × (size' ≡ size)
GivesWhy code (NoJson at) old new size size' = PrintsWhy code (no_json_text at) old new size size'
GivesWhy code (Refused r) old new size size' = PrintsWhy code (refused_text r) old new size size'

-- the message's bytes are written where there is room for all, or why there is none
abbrev pub GivesMade : ℤ → Result Written Unwritten → List ℕ → List ℕ → ℕ → ℕ → Type 0
GivesMade code (Ok w) old new size size' = WritesAnswer code (message_wire w) old new size size'
GivesMade code (Err why) old new size size' = GivesWhy code why old new size size'

-- what is written is the message that the text asks for, or why there is none
abbrev pub WritesJson : ℤ → ℕ → List ℕ → Families → List ℕ → List ℕ → ℕ → ℕ → Type 0
WritesJson code protocol text s old new size size' =
    (made : Result Written Unwritten) × IsMade s protocol text made
    × GivesMade code made old new size size'
