-- What the options of a line say.
use Rattle.std.specs.Prelude.{ℕ, true, false, List, [], ◌∷◌, Option, Some, None}
use Rattle.std.specs.Option.{option_or}
use Rattle.neli_tables.specs.declared.key.Key.{Key}
use Rattle.neli_tables.specs.declared.key.Key.TheVariants as key
use Rattle.neli_tables.specs.declared.kind.Kind.{Kind}
use Rattle.neli_tables.specs.declared.number.Span.{Span}
use Rattle.neli_tables.specs.declared.setting.Said.{Said}
use Rattle.neli_tables.specs.declared.setting.Said.TheVariants as said
use Rattle.neli_tables.specs.declared.setting.Setting.{Setting}
use Rattle.neli_tables.specs.declared.setting.Value.{Value}
use Rattle.neli_tables.specs.declared.setting.Value.TheVariants as value
use Rattle.neli_tables.specs.Lines.{LineSeen}
use Rattle.neli_tables.specs.declared.options.Options.{Options}

-- the line that a value means
abbrev pub line_in : Value (List ℕ) → Option ℕ
line_in (value.Line place) = Some place
line_in v = None

-- the numbers that a value is
abbrev pub span_in : Value (List ℕ) → Option Span
span_in (value.Span span) = Some span
span_in v = None

-- the number that a value is
abbrev pub number_in : Value (List ℕ) → Option ℕ
number_in (value.Span span) = Some span.first
number_in v = None

-- these options, and a kind, with the line that it means
abbrev pub kind_option : Options → Kind → Value (List ℕ) → Options
kind_option o kind v = record o { kind = Some kind; of = line_in v }

-- these options, and one more that is no kind
abbrev pub key_option : Options → Key → Value (List ℕ) → Options
key_option o key.After v = record o { after = line_in v }
key_option o key.By v = record o { by = line_in v }
key_option o key.ByFamily v = record o { by_family = true }
key_option o key.Enum v = record o { values = line_in v }
key_option o key.Flags v = record o { flags = line_in v }
key_option o key.Array v = record o { array = true }
key_option o key.Multi v = record o { multi = true }
key_option o key.Length v = record o { length = span_in v }
key_option o key.Range v = record o { range = span_in v }
key_option o key.Mask v = record o { mask = number_in v }
key_option o key.Hex v = record o { hex = true }
key_option o key.Request v = record o { request = true }
key_option o key.Reply v = record o { reply = true }
key_option o key.Family v = record o { family = number_in v }
key_option o key.Version v = record o { version = number_in v }
key_option o key.Id v = record o { id = number_in v }
key_option o key.At v = record o { at = span_in v }
key_option o key.Strict v = record o { strict = true }
key_option o key.StrictFrom v = record o { strict_from = number_in v }
key_option o key.Prefix v = o

abbrev pub said_option : Options → Said → Value (List ℕ) → Options
said_option o (said.Kind k) v = kind_option o k v
said_option o (said.Key k) v = key_option o k v

abbrev pub with_setting : Options → Setting (List ℕ) → Options
with_setting o setting = said_option o setting.said setting.value

-- these options, and those that follow
abbrev pub options_from : Options → List (Setting (List ℕ)) → Options
options_from o [] = o
options_from o (setting ∷ settings) = options_from (with_setting o setting) settings

abbrev pub no_options : Options
no_options = record {
  kind = None;
  of = None;
  after = None;
  by = None;
  by_family = false;
  values = None;
  flags = None;
  array = false;
  multi = false;
  length = None;
  range = None;
  mask = None;
  hex = false;
  request = false;
  reply = false;
  family = None;
  version = None;
  id = None;
  at = None;
  strict = false;
  strict_from = None;
}

abbrev pub options_in : List (Setting (List ℕ)) → Options
options_in settings = options_from no_options settings

-- what the options of a line say
abbrev pub options_of : LineSeen → Options
options_of line = options_in line.settings

abbrev pub word_of : Value (List ℕ) → Option (List ℕ)
word_of (value.Word word) = Some word
word_of v = None

-- the word that an option has, which only `prefix` does
abbrev pub word_in : Setting (List ℕ) → Option (List ℕ)
word_in setting = word_of setting.value

abbrev pub first_word : List (Setting (List ℕ)) → Option (List ℕ)
first_word [] = None
first_word (setting ∷ settings) = option_or (word_in setting) (first_word settings)

-- what the names of an enum or a flag set begin with in the kernel's header
abbrev pub prefix_of : LineSeen → Option (List ℕ)
prefix_of line = first_word line.settings
