-- Why texts are not read, and the printed text of each refusal.
use Rattle.std.specs.Prelude.{⊤, ◌≡◌, ℕ, List, codes, Result, Ok, Err}
use Rattle.neli_tables.specs.declared.why.Unread.{Unread}
use Rattle.neli_tables.specs.declared.why.Unread.TheVariants.{Memory, Refused}
use Rattle.neli_tables.specs.declared.why.Why.{Why}
use Rattle.neli_tables.specs.declared.why.Why.TheVariants.{UnknownWord, NameMissing, NumberMissing}
use Rattle.neli_tables.specs.declared.why.Why.TheVariants.{NumberElsewhere}
use Rattle.neli_tables.specs.declared.why.Why.TheVariants.{NotANumber, UnknownOption, Value, Twice}
use Rattle.neli_tables.specs.declared.why.Why.TheVariants.{OptionElsewhere}
use Rattle.neli_tables.specs.declared.why.Why.TheVariants.{FamilyFirst, RowElsewhere, NothingNamed}

abbrev pub why_text : Why → List ℕ
why_text UnknownWord = codes "no line begins with this word"
why_text NameMissing = codes "a name is missing"
why_text NumberMissing = codes "a number is missing"
why_text NumberElsewhere = codes "such a line has no number"
why_text NotANumber = codes "no number of 64 bits, or a range out of order"
why_text UnknownOption = codes "no such option"
why_text Value = codes "an option without its value, or with one that it does not take"
why_text Twice = codes "an option that stands twice"
why_text OptionElsewhere = codes "an option that does not belong here"
why_text FamilyFirst = codes "the family comes first, and once"
why_text RowElsewhere = codes "a row that does not belong here"
why_text NothingNamed = codes "a name that no such line has"

-- the call returns a value with this view, or this refusal; or it runs out of memory
abbrev pub Reads : {A B : Type 0} → (A → B) → Result B Why → Result A Unread → Type 0
Reads seen said (Ok read) = said ≡ Ok (seen read)
Reads seen said (Err (Refused why)) = said ≡ Err why
Reads seen said (Err Memory) = ⊤

-- the view of a value, or the refusal
abbrev pub seen_as : {A B : Type 0} → (A → B) → Result A Why → Result B Why
seen_as seen (Ok read) = Ok (seen read)
seen_as seen (Err why) = Err why

-- the next step with a value, or its refusal
abbrev pub and_then : {A B : Type 0} → Result A Why → (A → Result B Why) → Result B Why
and_then (Ok read) next = next read
and_then (Err why) next = Err why
