-- A line, read from its words.
use Rattle.std.specs.Prelude.{ℕ, Bool, true, false, ◌&&◌, ◌==◌, nat_le, if◌then◌else◌, List, [], ◌∷◌, drop}
use Rattle.std.specs.Prelude.{slice_index, Option, Some, None, Result, Ok, Err}
use Rattle.std.specs.List.{list_all}
use Rattle.neli_tables.specs.declared.key.Key.{Key}
use Rattle.neli_tables.specs.declared.key.Key.TheVariants as key
use Rattle.neli_tables.specs.declared.kind.Kind.{Kind}
use Rattle.neli_tables.specs.declared.kind.Kind.TheVariants as kind
use Rattle.neli_tables.specs.declared.line.Class.{Class}
use Rattle.neli_tables.specs.declared.line.Class.TheVariants as class
use Rattle.neli_tables.specs.declared.line.Numbers.{Numbers}
use Rattle.neli_tables.specs.declared.line.Numbers.TheVariants as numbers
use Rattle.neli_tables.specs.declared.number.Span.{Span}
use Rattle.neli_tables.specs.declared.setting.Said.{Said}
use Rattle.neli_tables.specs.declared.setting.Said.TheVariants as said
use Rattle.neli_tables.specs.declared.setting.Setting.{Setting}
use Rattle.neli_tables.specs.declared.why.Why.{Why}
use Rattle.neli_tables.specs.declared.why.Why.TheVariants as why
use Rattle.neli_tables.specs.declared.word.Word.{Word}
use Rattle.neli_tables.specs.declared.word.Word.TheVariants as word
use Rattle.neli_tables.specs.declared.line.Line.{Line}
use Rattle.neli_tables.specs.Numbers.{span_of}
use Rattle.neli_tables.specs.Refusals.{and_then}
use Rattle.neli_tables.specs.Settings.{settings_in, settings_view}
use Rattle.neli_tables.specs.Words.{word_named}

-- ---- the number after a name

-- the numbers that lines with this first word have
abbrev pub numbers_of : Word → Numbers
numbers_of word.Set = numbers.Never
numbers_of word.Each = numbers.Never
numbers_of word.Choice = numbers.Never
numbers_of word.Else = numbers.Never
numbers_of word.Enum = numbers.Never
numbers_of word.Flags = numbers.Never
numbers_of word.Family = numbers.Maybe
numbers_of word.Group = numbers.Maybe
numbers_of word.Case = numbers.Maybe
numbers_of word.Message = numbers.One
numbers_of word.Struct = numbers.One
numbers_of word.Attr = numbers.One
numbers_of word.Value = numbers.One
numbers_of word.Field = numbers.Range

-- one number, not a range of several
abbrev pub single : Span → Result Span Why
single span = if span.first == span.last then Ok span else Err why.NotANumber

abbrev pub number_allowed : Numbers → Span → Result Span Why
number_allowed numbers.Never span = Err why.NumberElsewhere
number_allowed numbers.Maybe span = single span
number_allowed numbers.One span = single span
number_allowed numbers.Range span = Ok span

abbrev pub no_number : Numbers → Result (Option Span) Why
no_number numbers.Never = Ok None
no_number numbers.Maybe = Ok None
no_number numbers.One = Err why.NumberMissing
no_number numbers.Range = Err why.NumberMissing

-- a word in the place of a number begins with a digit
abbrev pub is_countable : List ℕ → Bool
is_countable w = nat_le 48 (slice_index w 0) && nat_le (slice_index w 0) 57

abbrev pub as_number : Result Span Why → Result (Option Span) Why
as_number (Ok span) = Ok (Some span)
as_number (Err w) = Err w

abbrev pub number_if : Numbers → Option Span → Result (Option Span) Why
number_if n None = Err why.NotANumber
number_if n (Some span) = as_number (number_allowed n span)

abbrev pub number_at : Numbers → List ℕ → Result (Option Span) Why
number_at n w = number_if n (span_of w)

-- the number of a line, if these words follow its name
abbrev pub number_in : Numbers → List (List ℕ) → Result (Option Span) Why
number_in n [] = no_number n
number_in n (w ∷ ws) = if is_countable w then number_at n w else no_number n

-- the words after the number, if there is one
abbrev pub after_number : List (List ℕ) → Option Span → List (List ℕ)
after_number ws None = ws
after_number ws (Some span) = drop 1 ws

-- ---- the options that a line may have

abbrev pub kind_said : Said → Option Kind
kind_said (said.Kind k) = Some k
kind_said (said.Key k) = None

abbrev pub first_kind : Option Kind → Option Kind → Option Kind
first_kind (Some k) later = Some k
first_kind None later = later

-- the kind among these options
abbrev pub kind_in : List (Setting (List ℕ)) → Option Kind
kind_in [] = None
kind_in (setting ∷ settings) = first_kind (kind_said setting.said) (kind_in settings)

abbrev pub class_of : Option Kind → Class
class_of None = class.Nothing
class_of (Some kind.U8) = class.Number
class_of (Some kind.U16) = class.Number
class_of (Some kind.U32) = class.Number
class_of (Some kind.U64) = class.Number
class_of (Some kind.S8) = class.Number
class_of (Some kind.S16) = class.Number
class_of (Some kind.S32) = class.Number
class_of (Some kind.S64) = class.Number
class_of (Some kind.Be16) = class.Number
class_of (Some kind.Be32) = class.Number
class_of (Some kind.Be64) = class.Number
class_of (Some kind.Sbe32) = class.Number
class_of (Some kind.Uint) = class.Number
class_of (Some kind.Sint) = class.Number
class_of (Some kind.Nest) = class.Nest
class_of (Some kind.Hops) = class.Nest
class_of (Some kind.Choice) = class.Choice
class_of (Some kind.Struct) = class.Struct
class_of (Some kind.Bits) = class.Bits
class_of (Some kind.Bytes) = class.Bytes
class_of (Some k) = class.Other

-- lines that have a kind
abbrev pub has_kind : Word → Bool
has_kind word.Message = true
has_kind word.Field = true
has_kind word.Attr = true
has_kind word.Each = true
has_kind word.Case = true
has_kind word.Else = true
has_kind w = false

abbrev pub is_number : Class → Bool
is_number class.Number = true
is_number c = false

abbrev pub is_number_or_bits : Class → Bool
is_number_or_bits class.Number = true
is_number_or_bits class.Bits = true
is_number_or_bits c = false

abbrev pub is_number_or_struct : Class → Bool
is_number_or_struct class.Number = true
is_number_or_struct class.Struct = true
is_number_or_struct c = false

abbrev pub is_number_or_bytes : Class → Bool
is_number_or_bytes class.Number = true
is_number_or_bytes class.Bytes = true
is_number_or_bytes c = false

abbrev pub is_nest : Class → Bool
is_nest class.Nest = true
is_nest c = false

abbrev pub is_choice : Class → Bool
is_choice class.Choice = true
is_choice c = false

abbrev pub is_some_kind : Class → Bool
is_some_kind class.Nothing = false
is_some_kind c = true

abbrev pub is_attr : Word → Bool
is_attr word.Attr = true
is_attr w = false

abbrev pub is_message : Word → Bool
is_message word.Message = true
is_message w = false

abbrev pub is_set : Word → Bool
is_set word.Set = true
is_set w = false

abbrev pub is_family : Word → Bool
is_family word.Family = true
is_family w = false

abbrev pub has_values : Word → Bool
has_values word.Enum = true
has_values word.Flags = true
has_values w = false

-- whether an option that is no kind may stand on such a line, with a kind of this class
abbrev pub key_belongs : Word → Class → Key → Bool
key_belongs w c key.After = is_nest c
key_belongs w c key.By = is_choice c
key_belongs w c key.ByFamily = is_choice c
key_belongs w c key.Enum = is_number_or_bits c
key_belongs w c key.Flags = is_number_or_bits c
key_belongs w c key.Array = is_number_or_struct c
key_belongs w c key.Length = is_some_kind c
key_belongs w c key.Range = is_number c
key_belongs w c key.Mask = is_number c
key_belongs w c key.Hex = is_number_or_bytes c
key_belongs w c key.Multi = is_attr w
key_belongs w c key.Request = is_message w
key_belongs w c key.Reply = is_message w
key_belongs w c key.Family = is_message w
key_belongs w c key.Strict = is_message w
key_belongs w c key.StrictFrom = is_set w
key_belongs w c key.Version = is_family w
key_belongs w c key.Id = is_family w
key_belongs w c key.At = is_family w
key_belongs w c key.Prefix = has_values w

abbrev pub belongs : Word → Class → Said → Bool
belongs w c (said.Kind k) = has_kind w
belongs w c (said.Key k) = key_belongs w c k

-- whether all these options may stand on such a line
abbrev pub all_belong : Word → Class → List (Setting (List ℕ)) → Bool
all_belong w c settings = list_all (λ (setting : Setting (List ℕ)). belongs w c setting.said) settings

-- ---- a line

-- the view of a line
pub record LineSeen : Type 0 where
  pub number : ℕ
  pub word : Word
  pub name : List ℕ
  pub span : Option Span
  pub settings : List (Setting (List ℕ))

abbrev pub line_view : Line → LineSeen
line_view line = record {
  number = line.number;
  word = line.word;
  name = line.name.now;
  span = line.span;
  settings = settings_view line.settings;
}

-- a line with these options, if all of them may stand on it
abbrev pub line_of : ℕ → Word → List ℕ → Option Span → List (Setting (List ℕ)) → Result LineSeen Why
line_of number w name span settings =
    if all_belong w (class_of (kind_in settings)) settings
    then Ok (record { number = number; word = w; name = name; span = span; settings = settings })
    else Err why.OptionElsewhere

-- the line with this first word, this name, and these words after it: its number, and its options
abbrev pub line_with : (Word → List ℕ → Option ℕ) → ℕ → Word → List ℕ → List (List ℕ) → Result LineSeen Why
line_with find number w name words =
    and_then (number_in (numbers_of w) words) (λ span.
    and_then (settings_in find (after_number words span)) (λ settings. line_of number w name span settings))

abbrev pub line_after : (Word → List ℕ → Option ℕ) → ℕ → Option Word → List (List ℕ) → Result LineSeen Why
line_after find number None words = Err why.UnknownWord
line_after find number (Some w) [] = Err why.NameMissing
line_after find number (Some w) (name ∷ words) = line_with find number w name words

-- the line of these words: its first word, its name, its number, and its options
abbrev pub line_in : (Word → List ℕ → Option ℕ) → ℕ → List (List ℕ) → Result LineSeen Why
line_in find number [] = Err why.UnknownWord
line_in find number (first ∷ words) = line_after find number (word_named first) words
