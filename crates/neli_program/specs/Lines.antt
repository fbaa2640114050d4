-- The texts of a listing, apart from messages.
use Rattle.std.specs.Prelude.{ℕ, ◌-◌, List, [], ◌++◌, length, codes, replicate, false}
use Rattle.std.specs.Fmt.{decimal, digits}
use Rattle.neli_program.specs.declared.line.Ending.{Ending}
use Rattle.neli_program.specs.declared.line.Ending.TheVariants.{Whole, Input, Short, Other, Tail, Memory}

-- four lower-case hexadecimal digits: zeros, and then the number's own digits
unfoldable pub hex4 : ℕ → List ℕ
hex4 n = replicate (4 - length (digits 16 false n)) 48 ++ digits 16 false n

-- the last line, if there is one
abbrev pub ending : Ending → List ℕ
ending Whole = []
ending (Input n) = codes "fault: input " ++ decimal n ++ codes "\n"
ending Short = codes "fault: short\n"
ending Other = codes "fault: other\n"
ending Tail = codes "fault: tail\n"
ending Memory = codes "fault: memory\n"
