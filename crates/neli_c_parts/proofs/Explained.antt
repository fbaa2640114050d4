-- A text of a message's body, said of the message whose payload lies within the bytes.
use Rattle.std.proofs.Common.{◌≡◌, ◌≢◌, ℕ, ℤ, List, Option, Some, None, refl, sym, subst}
use Rattle.std.specs.Option.{option_map}
use Rattle.neli_tables_walk.specs.Bodies.{BodySeen, body_in}
use Rattle.neli_tables_check.specs.declared.place.Place.{Place}
use Rattle.neli_tables_check.specs.Refusals.{place_text, refusal_text}
use Rattle.neli_tables_check.specs.Violations.{Where}
use Rattle.neli_c_parts.specs.declared.families.Families.{Families}
use Rattle.neli_c_parts.specs.declared.message.NeliMessage.{NeliMessage}
use Rattle.neli_c_parts.specs.Codes.{bad_length}
use Rattle.neli_c_parts.specs.Named.{ChecksBy, PrintsWrong, at_text, place_view}
use Rattle.neli_c_parts.specs.Printed.{IsPrinted, PrintsMessage, PrintsText}
use Rattle.neli_c_parts.specs.Tables.{head_of}

-- of a payload that lies there
pub shown : (o : Option (List ℕ)) (payload : List ℕ) (line : List ℕ → List ℕ) (code : ℤ) (old new : List ℕ)
    (size size' : ℕ) → o ≡ Some payload → IsPrinted code (line payload) old new size size'
    → PrintsMessage code line o old new size size'
shown o payload line code old new size size' is prints =
    subst (λ (p : Option (List ℕ)). PrintsMessage code line p old new size size') (sym is) prints

-- values in options that are the same are the same
some-is : {A : Type 0} (x y : A) → Some x ≡ Some y → x ≡ y
some-is x y same = cc

pub explained : (o : Option (List ℕ)) (f : List ℕ → BodySeen) (body : BodySeen) (line : BodySeen → List ℕ) (code : ℤ)
    (old new : List ℕ) (size size' : ℕ) → Some body ≡ option_map f o
    → IsPrinted code (line body) old new size size'
    → PrintsMessage code (λ p. line (f p)) o old new size size'
explained None f body line code old new size size' same prints = absurd (let no : Some body ≡ None = same in cc)
explained (Some p) f body line code old new size size' same prints =
    subst (λ (b : BodySeen). IsPrinted code (line b) old new size size') (some-is body (f p) same) prints

-- the same of what is wrong with a body
pub checked-in : (s : Families) (protocol : ℕ) (m : NeliMessage) (o : Option (List ℕ)) (body : BodySeen)
    (wrong_in : BodySeen → Option Where) (code : ℤ) (old new : List ℕ) (size : ℕ)
    → Some body ≡ option_map (body_in s.tables (head_of protocol m)) o
    → (code ≢ bad_length → PrintsWrong code body.0 (wrong_in body) old new size)
    → ChecksBy code wrong_in protocol m o s old new size
checked-in s protocol m None body wrong_in code old new size same prints =
    absurd (let no : Some body ≡ None = same in cc)
checked-in s protocol m (Some p) body wrong_in code old new size same prints =
    subst (λ (b : BodySeen). code ≢ bad_length → PrintsWrong code b.0 (wrong_in b) old new size)
    (some-is body (body_in s.tables (head_of protocol m) p) same) prints

-- the path to a place is that of its table and its steps
pub text-at : (o : Option Place) → option_map place_text o ≡ option_map at_text (place_view o)
text-at None = refl
text-at (Some place) = refl

-- a refusal by the same number, text and path is the same
pub refused-as : (n m : ℕ) (t u p q : Option (List ℕ)) (code : ℤ) (old new : List ℕ) (size : ℕ) → n ≡ m
    → t ≡ u → p ≡ q → PrintsText code (refusal_text n t p) old new size
    → PrintsText code (refusal_text m u q) old new size
refused-as n m t u p q code old new size number text path prints =
    subst (λ (x : ℕ). PrintsText code (refusal_text x u q) old new size) number
    (subst (λ (x : Option (List ℕ)). PrintsText code (refusal_text n x q) old new size) text
    (subst (λ (x : Option (List ℕ)). PrintsText code (refusal_text n t x) old new size) path prints))
