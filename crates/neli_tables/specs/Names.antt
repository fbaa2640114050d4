-- The places of the lines that others refer to.
use Rattle.std.specs.Prelude.{ℕ, ◌+◌, Bool, false, ◌&&◌, if◌then◌else◌, List, [], ◌∷◌, Option, Some}
use Rattle.std.specs.Prelude.{None, codes}
use Rattle.std.specs.Borrow.{Bor}
use Rattle.std.specs.HashMap.{get_by}
use Rattle.std.specs.Str.{bytes_eq}
use Rattle.neli_tables.specs.declared.names.Names.{Names}
use Rattle.neli_tables.specs.declared.word.Word.{Word}
use Rattle.neli_tables.specs.declared.word.Word.TheVariants as word

-- the text of a first word
abbrev pub word_text : Word → List ℕ
word_text word.Family = codes "family"
word_text word.Group = codes "group"
word_text word.Message = codes "message"
word_text word.Struct = codes "struct"
word_text word.Field = codes "field"
word_text word.Set = codes "set"
word_text word.Attr = codes "attr"
word_text word.Each = codes "each"
word_text word.Choice = codes "choice"
word_text word.Case = codes "case"
word_text word.Else = codes "else"
word_text word.Enum = codes "enum"
word_text word.Flags = codes "flags"
word_text word.Value = codes "value"

-- the state of the names at a first word and a name
abbrev pub finds : Names → Word → List ℕ → Option ℕ
finds names w name =
    get_by (λ (k : Bor (List ℕ) × Bor (List ℕ)). bytes_eq (word_text w) k.0.now && bytes_eq name k.1.now) names.map

-- the first word and the name of a line of these words
abbrev pub head_of : List (List ℕ) → Option (List ℕ × List ℕ)
head_of (first ∷ name ∷ words) = Some (first, name)
head_of words = None

abbrev pub head_view : Bor (List ℕ) × Bor (List ℕ) → List ℕ × List ℕ
head_view head = (head.0.now, head.1.now)

-- these are this first word and this name
abbrev pub is_head : Word → List ℕ → Option (List ℕ × List ℕ) → Bool
is_head w name (Some head) = bytes_eq head.0 (word_text w) && bytes_eq head.1 name
is_head w name None = false

-- this place, if the line of these words is the wanted one, or else a later one
abbrev pub place_before : Word → List ℕ → ℕ → List (List ℕ) → Option ℕ → Option ℕ
place_before w name place words later = if is_head w name (head_of words) then Some place else later

-- the place of the first of these lines with this first word and this name; the first line has this place
abbrev pub place_in : Word → List ℕ → ℕ → List (ℕ × List (List ℕ)) → Option ℕ
place_in w name place [] = None
place_in w name place (line ∷ lines) = place_before w name place line.1 (place_in w name (place + 1) lines)
