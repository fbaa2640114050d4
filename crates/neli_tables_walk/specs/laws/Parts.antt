-- Values, members and elements of JSON, one after the other.
use Rattle.std.proofs.Common.{◌≡◌, ℕ, Bool, true, false, List, [], ◌∷◌, ◌++◌, codes, pos, sym}
use Rattle.std.proofs.Common.{subst, append_assoc, append-nil, map}
use Rattle.std.specs.Fmt.{decimal}
use Rattle.std.specs.List.{flat_map, list_all}
use Rattle.neli_tables_walk.specs.Json.{AreElements, AreMembers, IsJson, array, element}
use Rattle.neli_tables_walk.specs.Json.{elements}
use Rattle.neli_tables_walk.specs.Json.{empty_array, empty_object, integer, is_plain, member, members}
use Rattle.neli_tables_walk.specs.Json.{object}
use Rattle.neli_tables_walk.specs.Json.{plain, string}
use Rattle.neli_tables_walk.specs.Lists.{joined}

-- ---- words

-- after a text with P, this one makes one with Q
abbrev pub Turns : (List ℕ → Type 0) → (List ℕ → Type 0) → List ℕ → Type 0
Turns P Q text = (before : List ℕ) → P before → Q (before ++ text)

-- the text before an element or a member: nothing before the first
abbrev pub comma : Bool → List ℕ
comma true = []
comma false = codes ","

-- values with commas between them, or none yet
abbrev pub FirstElements : Bool → List ℕ → Type 0
FirstElements true text = text ≡ []
FirstElements false text = AreElements text

-- members, or none yet
abbrev pub FirstMembers : Bool → List ℕ → Type 0
FirstMembers true text = text ≡ []
FirstMembers false text = AreMembers text

pub turns_then :
    (P Q R : List ℕ → Type 0) (t u : List ℕ) → Turns P Q t → Turns Q R u → Turns P R (t ++ u)
turns_then P Q R t u first second before is =
    subst R (append_assoc before t u) (second (before ++ t) (first before is))

-- ---- elements and members

pub first_elements_more :
    (first : Bool) (start value : List ℕ) → FirstElements first start → IsJson value
    → AreElements (start ++ (comma first ++ value))
first_elements_more true start value none is =
    subst (λ (l : List ℕ). AreElements (l ++ value)) (sym none) (element value is)
first_elements_more false start value some is = elements start value some (element value is)

pub first_members_more :
    (first : Bool) (start more : List ℕ) → FirstMembers first start → AreMembers more
    → AreMembers (start ++ (comma first ++ more))
first_members_more true start more none is =
    subst (λ (l : List ℕ). AreMembers (l ++ more)) (sym none) is
first_members_more false start more some is = members start more some is

pub array_of : (first : Bool) (inner : List ℕ) → FirstElements first inner
    → IsJson (codes "[" ++ (inner ++ codes "]"))
array_of true inner none =
    subst (λ (l : List ℕ). IsJson (codes "[" ++ (l ++ codes "]"))) (sym none) empty_array
array_of false inner some = array inner some

pub object_of : (first : Bool) (inner : List ℕ) → FirstMembers first inner
    → IsJson (codes "{" ++ (inner ++ codes "}"))
object_of true inner none =
    subst (λ (l : List ℕ). IsJson (codes "{" ++ (l ++ codes "}"))) (sym none) empty_object
object_of false inner some = object inner some

pub named : (name value : List ℕ) → list_all is_plain name ≡ true → IsJson value
    → AreMembers (codes "\"" ++ (name ++ (codes "\":" ++ value)))
named name value is json = member name value (plain name is) json

-- a member after others
pub part :
    (name value : List ℕ) → list_all is_plain name ≡ true → IsJson value
    → Turns AreMembers AreMembers (codes ",\"" ++ (name ++ (codes "\":" ++ value)))
part name value is json before some = members before _ some (named name value is json)

pub plain_string : (text : List ℕ) → list_all is_plain text ≡ true
    → IsJson (codes "\"" ++ (text ++ codes "\""))
plain_string text is = string text (plain text is)

pub natural : (n : ℕ) → IsJson (decimal n)
natural n = integer (pos n)

-- ---- values that are listed

-- every text of a list has P
pub data Each (P : List ℕ → Type 0) : List (List ℕ) → Type 0 where
  none : Each P []
  one : (text : List ℕ) (texts : List (List ℕ)) → P text → Each P texts → Each P (text ∷ texts)

elements-later :
    (before : List ℕ) (texts : List (List ℕ)) → AreElements before → Each IsJson texts
    → AreElements (before ++ flat_map (λ t. codes "," ++ t) texts)
elements-later before [] some are = subst AreElements (sym (append-nil before)) some
elements-later before (t ∷ ts) some (one _ _ is are) =
    subst AreElements (append_assoc before (codes "," ++ t) (flat_map (λ u. codes "," ++ u) ts))
    (elements-later (before ++ (codes "," ++ t)) ts (elements before t some (element t is)) are)

members-later :
    (before : List ℕ) (texts : List (List ℕ)) → AreMembers before → Each AreMembers texts
    → AreMembers (before ++ flat_map (λ t. codes "," ++ t) texts)
members-later before [] some are = subst AreMembers (sym (append-nil before)) some
members-later before (t ∷ ts) some (one _ _ is are) =
    subst AreMembers (append_assoc before (codes "," ++ t) (flat_map (λ u. codes "," ++ u) ts))
    (members-later (before ++ (codes "," ++ t)) ts (members before t some is) are)

-- values with commas between them, in brackets
pub array-joined : (texts : List (List ℕ)) → Each IsJson texts
    → IsJson (codes "[" ++ (joined (codes ",") texts ++ codes "]"))
array-joined [] are = empty_array
array-joined (t ∷ ts) (one _ _ is are) =
    array (joined (codes ",") (t ∷ ts)) (elements-later t ts (element t is) are)

-- members with commas between them, in braces
pub object-joined : (texts : List (List ℕ)) → Each AreMembers texts
    → IsJson (codes "{" ++ (joined (codes ",") texts ++ codes "}"))
object-joined [] are = empty_object
object-joined (t ∷ ts) (one _ _ is are) =
    object (joined (codes ",") (t ∷ ts)) (members-later t ts is are)

pub each-append : (P : List ℕ → Type 0) (ts us : List (List ℕ)) → Each P ts → Each P us
    → Each P (ts ++ us)
each-append P [] us are more = more
each-append P (t ∷ ts) us (one _ _ is are) more = one t (ts ++ us) is (each-append P ts us are more)

-- a list of what each element of another one gives
pub each-flat : {A : Type 0} (P : List ℕ → Type 0) (f : A → List (List ℕ)) → ((x : A)
    → Each P (f x))
    → (xs : List A) → Each P (flat_map f xs)
each-flat P f given [] = none
each-flat P f given (x ∷ xs) =
    each-append P (f x) (flat_map f xs) (given x) (each-flat P f given xs)

pub each-map : {A : Type 0} (P : List ℕ → Type 0) (f : A → List ℕ) → ((x : A) → P (f x))
    → (xs : List A) → Each P (map f xs)
each-map P f given [] = none
each-map P f given (x ∷ xs) = one (f x) (map f xs) (given x) (each-map P f given xs)
