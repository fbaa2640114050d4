-- A line of numbers, and the links by which it is kept.
use Rattle.std.specs.Prelude.{◌≡◌, ⊤, ℕ, Bool, false, ◌||◌, ◌==◌, if◌then◌else◌, List, [], ◌∷◌, ◌++◌, length, true}
use Rattle.std.specs.Prelude.{Option, Some, None, is_some, zero, suc}
use Rattle.std.specs.Option.{option_map}
use Rattle.neli_session.specs.declared.line.Line.{Line}
use Rattle.neli_session.specs.declared.line.Link.{Link}
use Rattle.neli_session.specs.declared.line.Place.{Place}
use Rattle.neli_session.specs.Requests.{of_number, place_of}

-- the number is one of these
abbrev pub is_in : ℕ → List ℕ → Bool
is_in q [] = false
is_in q (n ∷ ns) = (n == q) || is_in q ns

-- the others
abbrev pub without : ℕ → List ℕ → List ℕ
without n [] = []
without n (m ∷ ms) = if m == n then without n ms else m ∷ without n ms

-- the first and the last, if there is one
abbrev pub first_in : List ℕ → Option ℕ
first_in [] = None
first_in (n ∷ ns) = Some n

abbrev pub last_after : Option ℕ → List ℕ → Option ℕ
last_after o [] = o
last_after o (n ∷ ns) = last_after (Some n) ns

abbrev pub last_in : List ℕ → Option ℕ
last_in ns = last_after None ns

-- no number comes twice
abbrev pub AreApart : List ℕ → Type 0
AreApart [] = ⊤
AreApart (n ∷ ns) = (is_in n ns ≡ false) × AreApart ns

-- ---- how it is kept

-- the link of a number
abbrev pub link_of : ℕ → List (ℕ × Place) → Option Link
link_of q links = option_map (λ p. p.link) (place_of q links)

-- a number has a place, in which its link is written
abbrev pub has_place : ℕ → List (ℕ × Place) → Bool
has_place q links = is_some (link_of q links)

-- the links say that these numbers follow one another, after this one if there is one
abbrev pub AreLinked : List (ℕ × Place) → Option ℕ → List ℕ → Type 0
AreLinked links before [] = ⊤
AreLinked links before (n ∷ ns) =
    (link_of n links ≡ Some (record { before = before; after = first_in ns })) × AreLinked links (Some n) ns

-- links, the first and the last number of a line
pub record IsLine (links : List (ℕ × Place)) (first last : Option ℕ) (ns : List ℕ) : Type 0 where
  pub linked : AreLinked links None ns
  pub first_is : first ≡ first_in ns
  pub last_is : last ≡ last_in ns
  pub apart : AreApart ns

-- the number that follows by its link
abbrev pub next_by : Option Link → Option ℕ
next_by None = None
next_by (Some l) = l.after

-- the line that begins with this number, of so many numbers at most
abbrev pub walk : List (ℕ × Place) → ℕ → Option ℕ → List ℕ
walk links zero o = []
walk links (suc k) None = []
walk links (suc k) (Some n) = n ∷ walk links k (next_by (link_of n links))

-- these numbers stand in line, in order
abbrev pub Stand : Line → List ℕ → Type 0
Stand l ns = IsLine l.places.entries l.first l.last ns

-- those that do
abbrev pub order_of : Line → List ℕ
order_of l = walk l.places.entries (length l.places.entries) l.first

-- ---- what its calls do

-- each number has the request that it had
abbrev pub SameRequests : List (ℕ × Place) → List (ℕ × Place) → Type 0
SameRequests old new = (q : ℕ) → of_number q new ≡ of_number q old

-- each number has the link that it had
abbrev pub SameLinks : List (ℕ × Place) → List (ℕ × Place) → Type 0
SameLinks old new = (q : ℕ) → link_of q new ≡ link_of q old

-- a number that did not stand in line is the last
abbrev pub Joins : ℕ → Line → Line → Type 0
Joins n old new =
    (ns : List ℕ) → Stand old ns → is_in n ns ≡ false → has_place n old.places.entries ≡ true → Stand new (ns ++ n ∷ [])

-- a number that stood in line does not
abbrev pub Leaves : ℕ → Line → Line → Type 0
Leaves n old new = (ns : List ℕ) → Stand old ns → is_in n ns ≡ true → Stand new (without n ns)

-- the line stays, if this number does not stand in it
abbrev pub StaysInLine : ℕ → Line → Line → Type 0
StaysInLine n old new = (ns : List ℕ) → Stand old ns → is_in n ns ≡ false → Stand new ns

-- another number follows it, or it follows another
abbrev pub with_after : Option ℕ → Link → Link
with_after o l = record l { after = o }

abbrev pub with_before : Option ℕ → Link → Link
with_before o l = record l { before = o }

-- of the number n that is changed so, if it has a place
abbrev pub link_at : ℕ → (Link → Link) → ℕ → Option Link → Option Link
link_at n f q o = if n == q then option_map f o else o

-- the same of a number, if there is one
abbrev pub link_if : Option ℕ → (Link → Link) → ℕ → Option Link → Option Link
link_if None f q o = o
link_if (Some n) f q o = link_at n f q o

-- the end of a line, where this number beside it, if there is one, is another
abbrev pub end_with : Option ℕ → Option ℕ → Option ℕ → Option ℕ
end_with None o end = o
end_with (Some n) o end = end
