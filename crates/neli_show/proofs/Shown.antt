-- What a run writes of an input.
use Rattle.std.proofs.Common.{◌≡◌, ℕ, suc, ◌+◌, ◌<◌, arith, List, [], ◌∷◌, ◌++◌, length, take}
use Rattle.std.proofs.Common.{get_or, Option, Some, None, IfSome, append-nil, ap, subst, sym, ◌∙◌}
use Rattle.std.proofs.Output.{has_written_append, has_written_of_eq}
use Rattle.std.proofs.Math.Seq.{take-suc}
use Rattle.std.proofs.lemmas.Grind.{flat_map-append}
use Rattle.std.specs.declared.fmt.Formatter.{Formatter}
use Rattle.std.specs.Fmt.{HasWritten, IsPlainFormatter}
use Rattle.std.specs.List.{flat_map}
use Rattle.neli_tables_walk.specs.Json.{AreLines, AreSoManyLines}
use Rattle.neli_show.specs.declared.request.Output.{Output}
use Rattle.neli_show.specs.declared.request.Output.TheVariants as output
use Rattle.neli_show.specs.declared.request.Request.{Request}
use Rattle.neli_show.specs.declared.run.Status.{Status}
use Rattle.neli_show.specs.Lines.{Writes, WritesInput, input_lines}
use Rattle.neli_show.specs.Parts.{input_by}
use Rattle.neli_show.specs.Runs.{IsShown}
use Rattle.neli_show.proofs.Lines.{input-lines}

-- the texts of parts, and of one more
flat-take : {X : Type 0} (f : X → List ℕ) (xs : List X) (i : ℕ) (d : X) → i < length xs
    → flat_map f (take (i + 1) xs) ≡ flat_map f (take i xs) ++ f (get_or xs i d)
flat-take f xs i d less =
    let next : i + 1 ≡ suc i = omega arith in
    ap (λ (n : ℕ). flat_map f (take n xs)) next ∙ ap (flat_map f) (take-suc xs i d less)
    ∙ flat_map-append f (take i xs) (get_or xs i d ∷ [])
    ∙ ap (λ (l : List ℕ). flat_map f (take i xs) ++ l) (append-nil (f (get_or xs i d)))

-- a fact about the bytes that were read holds of those in the input
pub of_the_input : (there : Option (List ℕ)) (start read : List ℕ) (P : List ℕ → Type 0)
    → start ≡ []
    → IfSome there (λ bytes. read ≡ start ++ bytes) → P read → IfSome there P
of_the_input None start read P none all is = tt
of_the_input (Some bytes) start read P none all is = subst P (all ∙ ap (λ s. s ++ bytes) none) is

pub on_some : (P Q : List ℕ → Type 0) (there : Option (List ℕ))
    → ((bytes : List ℕ) → P bytes → Q bytes)
    → IfSome there P → IfSome there Q
on_some P Q None step is = tt
on_some P Q (Some bytes) step is = step bytes is

-- in JSON it writes lines
pub shown-lines : (request : Request) (word : Option (List ℕ)) (input : List ℕ)
    (old new : Option (List ℕ)) (end : Status)
    → request.output ≡ output.Json → IsShown request word input old new end
    → WritesInput input old new
shown-lines request word input old new end json shown =
    let bytes = shown.0 in
    let items = shown.1 in
    let tables = shown.2 in (
      bytes,
      items,
      shown.3,
      (
        input_by request.output tables request.protocol bytes items,
        shown.5,
        subst (λ (o : Output). AreSoManyLines (input_lines bytes items)
            (input_by o tables request.protocol bytes items)) (sym json)
            (input-lines tables request.protocol bytes items),
      ),
    )

pub input-json : (input : List ℕ) (old new : Option (List ℕ)) → WritesInput input old new
    → Writes old new AreLines
input-json input old new written =
    (written.3.0, written.3.1, (input_lines written.0 written.1, written.3.2))

-- the parts so far are printed, and one more
pub printed_part : {X W : Type 0} (took : W → List ℕ → W → Type 0) (start f g : Formatter W)
    (text : X → List ℕ) (parts : List X) (i : ℕ) (d : X) → i < length parts
    → (IsPlainFormatter start → HasWritten took start (flat_map text (take i parts)) f)
    → (IsPlainFormatter f → HasWritten took f (text (get_or parts i d)) g)
    → IsPlainFormatter start → HasWritten took start (flat_map text (take (i + 1) parts)) g
printed_part took start f g text parts i d less so_far prints plain =
    let before = so_far plain in
    has_written_of_eq took start _ _ g (sym (flat-take text parts i d less))
    (has_written_append took start _ f _ g before (prints before.plain))
