-- Pieces of lines.
use Rattle.std.specs.Prelude.{ℕ, zero, suc, Bool, true, false, List, [], ◌∷◌, ◌++◌, codes}
use Rattle.neli_print.specs.declared.pieces.Colour.{Colour}
use Rattle.neli_print.specs.declared.pieces.Colour.TheVariants as colour

-- a text so many times
abbrev pub repeated : List ℕ → ℕ → List ℕ
repeated text zero = []
repeated text (suc n) = repeated text n ++ text

-- two blanks a level
abbrev pub indent : ℕ → List ℕ
indent level = repeated (codes "  ") level

-- a text, if something holds
abbrev pub when : Bool → List ℕ → List ℕ
when true text = text
when false text = []

-- the escapes of a terminal that begin a colour, and the one that ends it
abbrev pub escape_of : Colour → List ℕ
escape_of colour.Type = 27 ∷ codes "[1;33m"
escape_of colour.Structure = 27 ∷ codes "[32m"
escape_of colour.Attribute = 27 ∷ codes "[36m"
escape_of colour.Error = 27 ∷ codes "[31m"
escape_of colour.End = 27 ∷ codes "[0m"

-- a text in a colour, if there are colours
abbrev pub painted : Bool → Colour → List ℕ → List ℕ
painted coloured c text =
    when coloured (escape_of c) ++ (text ++ when coloured (escape_of colour.End))
