-- The options of lines, with the values that they take.
use Rattle.std.specs.Prelude.{ℕ, ◌+◌, Bool, ◌==◌, if◌then◌else◌, List, [], ◌∷◌, ◌++◌, length, map, take, drop}
use Rattle.std.specs.Prelude.{Option, Some, None, Result, Ok, Err}
use Rattle.std.specs.Borrow.{Bor}
use Rattle.std.specs.List.{list_any, position}
use Rattle.std.specs.Option.{option_map}
use Rattle.std.specs.Global.{Vec}
use Rattle.neli_tables.specs.declared.key.Key.{Key}
use Rattle.neli_tables.specs.declared.key.Key.TheVariants as key
use Rattle.neli_tables.specs.declared.kind.Kind.{Kind}
use Rattle.neli_tables.specs.declared.kind.Kind.TheVariants as kind
use Rattle.neli_tables.specs.declared.number.Span.{Span}
use Rattle.neli_tables.specs.declared.setting.Said.{Said}
use Rattle.neli_tables.specs.declared.setting.Said.TheVariants as said
use Rattle.neli_tables.specs.declared.setting.Setting.{Setting}
use Rattle.neli_tables.specs.declared.setting.Takes.{Takes}
use Rattle.neli_tables.specs.declared.setting.Takes.TheVariants as asks
use Rattle.neli_tables.specs.declared.setting.Value.{Value}
use Rattle.neli_tables.specs.declared.setting.Value.TheVariants as value
use Rattle.neli_tables.specs.declared.why.Why.{Why}
use Rattle.neli_tables.specs.declared.why.Why.TheVariants as why
use Rattle.neli_tables.specs.declared.word.Word.{Word}
use Rattle.neli_tables.specs.declared.word.Word.TheVariants as word
use Rattle.neli_tables.specs.Keys.{key_named}
use Rattle.neli_tables.specs.Kinds.{kind_named}
use Rattle.neli_tables.specs.Numbers.{span_of}
use Rattle.neli_tables.specs.Refusals.{and_then}

-- ---- the meaning and the value of an option

-- the meaning of the option with this name: a kind, or something else
abbrev pub kind_or_key : Option Kind → Option Key → Option Said
kind_or_key (Some k) other = Some (said.Kind k)
kind_or_key None other = option_map said.Key other

abbrev pub said_named : List ℕ → Option Said
said_named name = kind_or_key (kind_named name) (key_named name)

abbrev pub kind_takes : Kind → Takes
kind_takes kind.Nest = asks.Line word.Set
kind_takes kind.Hops = asks.Line word.Set
kind_takes kind.Struct = asks.Line word.Struct
kind_takes kind.Choice = asks.Line word.Choice
kind_takes k = asks.Nothing

abbrev pub key_takes : Key → Takes
key_takes key.After = asks.Line word.Struct
key_takes key.By = asks.Line word.Attr
key_takes key.Enum = asks.Line word.Enum
key_takes key.Flags = asks.Line word.Flags
key_takes key.Prefix = asks.Word
key_takes key.Length = asks.Span
key_takes key.Range = asks.Span
key_takes key.Mask = asks.Span
key_takes key.Family = asks.Span
key_takes key.Version = asks.Span
key_takes key.Id = asks.Span
key_takes key.At = asks.Span
key_takes key.StrictFrom = asks.Span
key_takes k = asks.Nothing

-- the value that an option takes after a `=`
abbrev pub takes : Said → Takes
takes (said.Kind k) = kind_takes k
takes (said.Key k) = key_takes k

abbrev pub key_slot : Key → ℕ
key_slot key.After = 1
key_slot key.By = 2
key_slot key.ByFamily = 3
key_slot key.Enum = 4
key_slot key.Flags = 5
key_slot key.Array = 6
key_slot key.Multi = 7
key_slot key.Length = 8
key_slot key.Range = 9
key_slot key.Mask = 10
key_slot key.Hex = 11
key_slot key.Request = 12
key_slot key.Reply = 13
key_slot key.Family = 14
key_slot key.Version = 15
key_slot key.Id = 16
key_slot key.At = 17
key_slot key.Prefix = 18
key_slot key.Strict = 19
key_slot key.StrictFrom = 20

-- the number of an option: kinds share one, since a line has one kind
abbrev pub slot : Said → ℕ
slot (said.Kind k) = 0
slot (said.Key k) = key_slot k

-- ---- an option with its value

abbrev pub span_value : Option Span → Result (Value (List ℕ)) Why
span_value (Some span) = Ok (value.Span span)
span_value None = Err why.NotANumber

-- the line that the name refers to
abbrev pub line_value : Option ℕ → Result (Value (List ℕ)) Why
line_value (Some place) = Ok (value.Line place)
line_value None = Err why.NothingNamed

-- below, `find` returns the place of the line with a first word and a name

abbrev pub taken : (Word → List ℕ → Option ℕ) → Takes → List ℕ → Result (Value (List ℕ)) Why
taken find asks.Nothing word = Err why.Value
taken find (asks.Line first) word = line_value (find first word)
taken find asks.Word word = Ok (value.Word word)
taken find asks.Span word = span_value (span_of word)

-- the value after a `=`
abbrev pub value_in : (Word → List ℕ → Option ℕ) → Takes → List ℕ → Result (Value (List ℕ)) Why
value_in find t word = if length word == 0 then Err why.Value else taken find t word

-- without a value, the option must take none
abbrev pub without_value : Takes → Result (Value (List ℕ)) Why
without_value asks.Nothing = Ok value.Nothing
without_value t = Err why.Value

abbrev pub value_or_none : (Word → List ℕ → Option ℕ) → Takes → Option (List ℕ) → Result (Value (List ℕ)) Why
value_or_none find t (Some word) = value_in find t word
value_or_none find t None = without_value t

abbrev pub said_with : (Word → List ℕ → Option ℕ) → Option Said → Option (List ℕ) → Result (Setting (List ℕ)) Why
said_with find None word = Err why.UnknownOption
said_with find (Some s) word =
    and_then (value_or_none find (takes s) word) (λ v. Ok (record { said = s; value = v }))

-- the option with this name, and the text after its `=`
abbrev pub setting_with : (Word → List ℕ → Option ℕ) → List ℕ → Option (List ℕ) → Result (Setting (List ℕ)) Why
setting_with find name word = said_with find (said_named name) word

abbrev pub setting_at : (Word → List ℕ → Option ℕ) → List ℕ → Option ℕ → Result (Setting (List ℕ)) Why
setting_at find word None = setting_with find word None
setting_at find word (Some at) = setting_with find (take at word) (Some (drop (at + 1) word))

-- the option in a word: its name, up to the first `=`, and its value
abbrev pub setting_in : (Word → List ℕ → Option ℕ) → List ℕ → Result (Setting (List ℕ)) Why
setting_in find word = setting_at find word (position (λ b. b == 61) word)

-- ---- the options of a line

-- one of these has the same number as this one
abbrev pub has_slot : List (Setting (List ℕ)) → Said → Bool
has_slot settings s = list_any (λ (setting : Setting (List ℕ)). slot setting.said == slot s) settings

-- an option that stands once
abbrev pub once : List (Setting (List ℕ)) → Setting (List ℕ) → Result (Setting (List ℕ)) Why
once before setting = if has_slot before setting.said then Err why.Twice else Ok setting

-- these options, and those in the words, each once; or why the first bad one is refused
abbrev pub settings_from : (Word → List ℕ → Option ℕ) → List (Setting (List ℕ)) → List (List ℕ)
    → Result (List (Setting (List ℕ))) Why
settings_from find before [] = Ok before
settings_from find before (word ∷ words) =
    and_then (and_then (setting_in find word) (once before))
    (λ setting. settings_from find (before ++ setting ∷ []) words)

abbrev pub settings_in : (Word → List ℕ → Option ℕ) → List (List ℕ) → Result (List (Setting (List ℕ))) Why
settings_in find words = settings_from find [] words

-- ---- views

abbrev pub value_view : Value (Bor (List ℕ)) → Value (List ℕ)
value_view value.Nothing = value.Nothing
value_view (value.Word word) = value.Word word.now
value_view (value.Span span) = value.Span span
value_view (value.Line n) = value.Line n

abbrev pub setting_view : Setting (Bor (List ℕ)) → Setting (List ℕ)
setting_view setting = record { said = setting.said; value = value_view setting.value }

abbrev pub settings_view : Vec (Setting (Bor (List ℕ))) → List (Setting (List ℕ))
settings_view settings = map setting_view settings.items
