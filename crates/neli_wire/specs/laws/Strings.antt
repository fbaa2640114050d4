-- Laws of texts and of nothing, which the impls cite.
use Rattle.std.proofs.Common.{◌≡◌, ◌≢◌, ℕ, ◌+◌, ◌-◌, Bool, true, false, cond, ltb, eqb, List, []}
use Rattle.std.proofs.Common.{◌∷◌, ◌++◌, length, take, Result, Ok, Err, refl, ap, arith, eq-eqb, length-append}
use Rattle.std.specs.declared.str.Utf8Error.{Utf8Error}
use Rattle.std.specs.Str.{IsUtf8}
use Rattle.std.specs.Str.Lossy.{utf8_valid_len}
use Rattle.std.proofs.lemmas.Str.{utf8_valid_len-IsUtf8}
use Rattle.neli_wire.specs.declared.errors.DeError.{DeError}
use Rattle.neli_wire.specs.declared.errors.DeError.TheVariants.{Utf8 as NotText, InvalidInput, Memory}
use Rattle.neli_wire.specs.declared.errors.Utf8.{Utf8}
use Rattle.neli_wire.specs.declared.errors.Utf8.TheVariants.{String as OfString, Str as OfStr}
use Rattle.neli_wire.specs.Bytes.{short}
use Rattle.neli_wire.specs.Strings.{text_and_zero, fault_of, utf8_of, borrowed_text, owned_text, nothing}

abbrev done : {A : Type 0} → A → Result A DeError
done x = Ok x

-- a terminated text has one byte more than the text
pub text_and_zero-length : (text bytes : List ℕ) → text_and_zero text ≡ Ok bytes → length bytes ≡ length text + 1
text_and_zero-length text bytes e = let same : text ++ 0 ∷ [] ≡ bytes = cc in
    omega (arith, ap length same, length-append text (0 ∷ []))

-- neither outcome of a test is that refusal
neither : {A : Type 0} (b : Bool) (x : A) (d e : DeError) → d ≢ e → cond b (done x) (Err d) ≢ Err e
neither true x d e other f = cc
neither false x d e other f = other cc

pub utf8_of-not : (kind : Utf8Error → Utf8) (s : List ℕ) (e : DeError) → NotText (kind (fault_of s)) ≢ e
    → utf8_of kind s ≢ Err e
utf8_of-not kind s e other f = neither (eqb (utf8_valid_len s) (length s)) s (NotText (kind (fault_of s))) e other f

pub borrowed_text-never_short : (s : List ℕ) → borrowed_text s ≢ Err short
borrowed_text-never_short s e = utf8_of-not OfStr s short (λ f. cc) e

guarded : {A : Type 0} (b : Bool) (n : ℕ) (r : Result A DeError) (e : DeError) → InvalidInput n ≢ e → r ≢ Err e
    → cond b (Err (InvalidInput n)) r ≢ Err e
guarded true n r e f g h = f cc
guarded false n r e f g h = g h

pub owned_text-never_short : (s : List ℕ) → owned_text s ≢ Err short
owned_text-never_short s e = guarded (ltb (length s) 1) (length s) _ short (λ f. cc)
    (utf8_of-not OfString (take (length s - 1) s) short (λ f. cc)) e

pub owned_text-no_memory : (s : List ℕ) → owned_text s ≢ Err Memory
owned_text-no_memory s e = guarded (ltb (length s) 1) (length s) _ Memory (λ f. cc)
    (utf8_of-not OfString (take (length s - 1) s) Memory (λ f. cc)) e

pub nothing-no_memory : (s : List ℕ) → nothing s ≢ Err Memory
nothing-no_memory s e = guarded (ltb 0 (length s)) (length s) (done {A = Unit {0}} tt) Memory (λ f. cc) (λ f. cc) e

pub nothing-never_short : (s : List ℕ) → nothing s ≢ Err short
nothing-never_short s e = guarded (ltb 0 (length s)) (length s) (done {A = Unit {0}} tt) short (λ f. cc) (λ f. cc) e

pub all-never_short : (s : List ℕ) → done s ≢ Err short
all-never_short s e = cc

-- UTF-8 is read as it is
pub utf8_of-text : (kind : Utf8Error → Utf8) (s : List ℕ) → IsUtf8 s → utf8_of kind s ≡ Ok s
utf8_of-text kind s text = rw (eq-eqb (utf8_valid_len s) (length s) (utf8_valid_len-IsUtf8 s text)) refl
