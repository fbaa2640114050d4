-- Scripts: their lines, and the entry and the command of each.
use Rattle.std.specs.Prelude.{◌≡◌, ◌≢◌, ⊤, ℕ, ◌+◌, Bool, true, false, ◌==◌, if◌then◌else◌, bit_and, List, [], ◌∷◌, codes}
use Rattle.std.specs.Prelude.{IsSome, ◌<◌, length, take, Option, Some, None, Result, Ok, Err}
use Rattle.std.specs.List.{AllZip, flat_map, slice_split}
use Rattle.std.specs.Option.{option_map, option_to_list}
use Rattle.std.specs.Str.{bytes_eq}
use Rattle.std.specs.declared.io.ErrorKind.{ErrorKind}
use Rattle.std.specs.declared.io.ErrorKind.TheVariants.{WouldBlock, ConnectionReset, Other}
use Rattle.bitflags.specs.Sets.{known_bits}
use Rattle.neli_consts.specs.NlmF.{nlm_f_names}
use Rattle.neli_consts.specs.declared.nlm_f.NlmF.{NlmF}
use Rattle.neli_util.specs.Masks.{groups_of}
use Rattle.neli_reader.specs.Headers.{flags_of}
use Rattle.neli_reader.specs.NlPayload.TheVariants as payload
use Rattle.neli_reader.specs.SocketError.TheVariants as socket
use Rattle.neli_runs.specs.declared.command.Command.{Command}
use Rattle.neli_runs.specs.declared.command.Command.TheVariants as command
use Rattle.neli_program.specs.declared.entry.Entry.{Entry}
use Rattle.neli_program.specs.declared.entry.Entry.TheVariants.{Port, Number, Request, Datagram, Fault, Read, Close}
use Rattle.neli_program.specs.declared.script.ScriptError.{ScriptError}
use Rattle.neli_program.specs.declared.script.ScriptError.TheVariants as script
use Rattle.neli_program.specs.Words.{bytes_of, bytes_take_memory, number}

-- ---- lines and words

-- the lines of a text: the parts between its line feeds
abbrev pub lines_in : List ℕ → List (List ℕ)
lines_in text = slice_split (λ b. b == 10) text

-- the words of a line: the parts between its spaces
abbrev pub words_in : List ℕ → List (List ℕ)
words_in line = slice_split (λ b. b == 32) line

-- ---- the entry of a line

-- the fault of the link with this name
abbrev pub fault_named : List ℕ → Option ErrorKind
fault_named name =
    if bytes_eq name (codes "wouldblock") then Some WouldBlock
    else (if bytes_eq name (codes "reset") then Some ConnectionReset
    else (if bytes_eq name (codes "other") then Some Other else None))

-- a word with one argument
abbrev pub short_entry : List ℕ → List ℕ → Option Entry
short_entry word argument =
    if bytes_eq word (codes "pid") then option_map Port (number 32 argument)
    else (if bytes_eq word (codes "seq") then option_map Number (number 32 argument)
    else (if bytes_eq word (codes "fault") then option_map Fault (fault_named argument)
    else (if bytes_eq word (codes "read") then option_map Read (number 64 argument)
    else (if bytes_eq word (codes "close") then option_map Close (number 64 argument) else None))))

-- a datagram; None if a word of it is bad
abbrev pub datagram : Option ℕ → Option (List ℕ) → Option Entry
datagram (Some mask) (Some bytes) = Some (Datagram mask bytes)
datagram mask bytes = None

-- a request; None if a word of it is bad
abbrev pub request : Option ℕ → Option ℕ → Option (List ℕ) → Option Entry
request (Some message_type) (Some flags) (Some bytes) = Some (Request message_type flags bytes)
request message_type flags bytes = None

-- the entry of these words; None if they are bad
abbrev pub entry_in : List (List ℕ) → Option Entry
entry_in (word ∷ argument ∷ []) = short_entry word argument
entry_in (word ∷ mask ∷ bytes ∷ []) =
    if bytes_eq word (codes "data") then datagram (number 32 mask) (bytes_of bytes) else None
entry_in (word ∷ message_type ∷ flags ∷ bytes ∷ []) =
    if bytes_eq word (codes "send")
    then request (number 16 message_type) (number 16 flags) (bytes_of bytes) else None
entry_in words = None

-- reading it takes memory: for the bytes of a datagram or a request whose numbers are good
abbrev pub entry_takes_memory : List (List ℕ) → Type 0
entry_takes_memory (word ∷ mask ∷ bytes ∷ []) =
    (bytes_eq word (codes "data") ≡ true) × IsSome (number 32 mask) × bytes_take_memory bytes
entry_takes_memory (word ∷ message_type ∷ flags ∷ bytes ∷ []) =
    (bytes_eq word (codes "send") ≡ true) × IsSome (number 16 message_type) × IsSome (number 16 flags)
    × bytes_take_memory bytes
entry_takes_memory words = ⊥

-- ---- the entries of a script

-- the port is set on the first line that isn't empty, or not at all
abbrev pub entry_if : Bool → Option Entry → Option Entry
entry_if true said = said
entry_if false (Some (Port n)) = None
entry_if false said = said

-- the entry of line k before those of the others; or the number of the first bad line
abbrev pub with_line : ℕ → Option Entry → Result (List Entry) ℕ → Result (List Entry) ℕ
with_line k None later = Err k
with_line k (Some entry) (Ok entries) = Ok (entry ∷ entries)
with_line k (Some entry) (Err j) = Err j

-- the entries of these lines, counted from k on; or the number of the first bad one. An empty line has none.
abbrev pub entries_from : Bool → ℕ → List (List ℕ) → Result (List Entry) ℕ
entries_from first k [] = Ok []
entries_from first k ([] ∷ lines) = entries_from first (k + 1) lines
entries_from first k ((b ∷ line) ∷ lines) =
    with_line k (entry_if first (entry_in (words_in (b ∷ line)))) (entries_from false (k + 1) lines)

-- the entries of a script, or the number of its first bad line
abbrev pub entries_of : List ℕ → Result (List Entry) ℕ
entries_of text = entries_from true 1 (lines_in text)

-- these lines are good: each that isn't empty has an entry. If `first`, the first such line may set the port.
abbrev pub AreGood : Bool → List (List ℕ) → Type 0
AreGood first [] = ⊤
AreGood first ([] ∷ lines) = AreGood first lines
AreGood first ((b ∷ line) ∷ lines) =
    IsSome (entry_if first (entry_in (words_in (b ∷ line)))) × AreGood false lines

-- line k is the first bad one: those before it are good, and with it they are not
abbrev pub IsFirstBad : List (List ℕ) → ℕ → Type 0
IsFirstBad lines k =
    (before : ℕ) × (k ≡ before + 1) × (before < length lines)
    × AreGood true (take before lines) × (¬ AreGood true (take k lines))

-- ---- the commands of a script

-- the port of its router: that of its first line, or 0
abbrev pub port_of : List Entry → ℕ
port_of (Port n ∷ entries) = n
port_of entries = 0

-- the flags of a number: those of its bits that have a name
abbrev pub named_flags : ℕ → NlmF
named_flags bits = flags_of (bit_and bits (known_bits nlm_f_names))

-- the command of an entry; none for a port
abbrev pub IsCommandOf : Entry → Option (Command ℕ (List ℕ)) → Type 0
IsCommandOf (Port n) told = told ≡ None
IsCommandOf (Number n) told = told ≡ Some (command.SetNextSeq n)
IsCommandOf (Request message_type flags bytes) told =
    told ≡ Some (command.Send message_type (named_flags flags) (payload.Payload bytes))
IsCommandOf (Datagram mask bytes) (Some (command.Datagram came groups)) =
    (came.items ≡ bytes) × (groups ≡ groups_of mask)
IsCommandOf (Datagram mask bytes) told = ⊥
IsCommandOf (Fault kind) told = told ≡ Some (command.Fault (socket.Io kind))
IsCommandOf (Read handle) told = told ≡ Some (command.Read handle)
IsCommandOf (Close handle) told = told ≡ Some (command.Close handle)

-- making that command takes memory: for the groups of a datagram
abbrev pub command_takes_memory : Entry → Type 0
command_takes_memory (Datagram mask bytes) = mask ≢ 0
command_takes_memory entry = ⊥

-- the commands are those of the entries, in order
abbrev pub AreCommands : List Entry → List (Command ℕ (List ℕ)) → Type 0
AreCommands entries commands =
    (told : List (Option (Command ℕ (List ℕ)))) × AllZip IsCommandOf entries told
    × (commands ≡ flat_map option_to_list told)

-- a script with no bad line has this port and these commands
abbrev pub IsScript : List ℕ → ℕ → List (Command ℕ (List ℕ)) → Type 0
IsScript text port commands =
    (entries : List Entry) × (entries_of text ≡ Ok entries)
    × (port ≡ port_of entries) × AreCommands entries commands

-- this is the number of the first bad line, or memory ran out
abbrev pub BadLineOf : List ℕ → ScriptError → Type 0
BadLineOf text (script.BadLine k) = entries_of text ≡ Err k
BadLineOf text script.Memory = ⊤
