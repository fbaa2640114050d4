-- Why something is not written, in words.
use Rattle.std.specs.Prelude.{ℕ, List, [], ◌++◌, codes, Option, Some, None}
use Rattle.neli_tables_walk.specs.Names.{name_text}
use Rattle.neli_tables_write.specs.declared.why.Why.{Why}
use Rattle.neli_tables_write.specs.declared.why.Why.TheVariants.{Memory, NoName, NoValue, OtherSort, Range}
use Rattle.neli_tables_write.specs.declared.why.Why.TheVariants.{ZeroInside, NoAddress, NoDigits, TooLong}
use Rattle.neli_tables_write.specs.declared.why.Why.TheVariants.{NoCase, IsNest, NoNest, TooDeep, NoFamily}

abbrev pub why_text : Why → List ℕ
why_text Memory = codes "out of memory"
why_text NoName = codes "no such name"
why_text NoValue = codes "no such value"
why_text OtherSort = codes "a value of another sort"
why_text Range = codes "out of range"
why_text ZeroInside = codes "a zero in the text"
why_text NoAddress = codes "no address"
why_text NoDigits = codes "no hexadecimal digits"
why_text TooLong = codes "longer than 65531 bytes"
why_text NoCase = codes "nothing before it says what it is"
why_text IsNest = codes "a nest"
why_text NoNest = codes "no nest"
why_text TooDeep = codes "nested too deep"
why_text NoFamily = codes "the number of its family is not known"

-- the nearest name, if there is one
abbrev pub nearest_text : Option (List ℕ) → List ℕ
nearest_text (Some name) = codes ", the nearest is " ++ name_text name
nearest_text None = []

-- a refusal in one line
abbrev pub refusal_text : List ℕ → Why → Option (List ℕ) → List ℕ
refusal_text path why nearest = path ++ (codes ": " ++ (why_text why ++ nearest_text nearest))
