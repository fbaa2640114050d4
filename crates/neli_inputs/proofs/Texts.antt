-- Lent lines, and their meaning.
use Rattle.std.proofs.Common.{◌≡◌, ◌∙◌, ℕ, List, map, sym, ap}
use Rattle.std.specs.Borrow.{Bor}
use Rattle.std.specs.List.{flat_map}
use Rattle.std.proofs.lemmas.List.Folds.{flat_map-map}
use Rattle.std.proofs.lemmas.Simd.{map-map}
use Rattle.neli_inputs.specs.declared.line.Line.{Line}
use Rattle.neli_inputs.specs.declared.item.Item.{Item}
use Rattle.neli_inputs.specs.Text.{items_in, uncooked}

pub spelled : (line_of : List ℕ → Line × List ℕ) (texts : List (Bor (List ℕ))) (lines : List (List ℕ)) (bytes : List ℕ)
    → map (λ (t : Bor (List ℕ)). t.now) texts ≡ lines → bytes ≡ flat_map (λ (t : Bor (List ℕ)). (line_of t.now).1) texts
    → bytes ≡ flat_map (λ (l : List ℕ). (line_of l).1) lines
spelled line_of texts lines bytes lent h =
    h ∙ sym (flat_map-map (λ (l : List ℕ). (line_of l).1) (λ (t : Bor (List ℕ)). t.now) texts)
    ∙ ap (flat_map (λ (l : List ℕ). (line_of l).1)) lent

pub said : (line_of : List ℕ → Line × List ℕ) (texts : List (Bor (List ℕ))) (lines : List (List ℕ)) (read : List Line)
    → map (λ (t : Bor (List ℕ)). t.now) texts ≡ lines → read ≡ map (λ (t : Bor (List ℕ)). (line_of t.now).0) texts
    → read ≡ map (λ (l : List ℕ). (line_of l).0) lines
said line_of texts lines read lent h =
    h ∙ sym (map-map (λ (l : List ℕ). (line_of l).0) (λ (t : Bor (List ℕ)). t.now) texts)
    ∙ ap (map (λ (l : List ℕ). (line_of l).0)) lent

-- the items of these lines, without headers
pub bare : (lines read given : List Line) (bytes lent : List ℕ) (cooked from items : List Item)
    → items ≡ map (uncooked lent) from → lent ≡ bytes → from ≡ cooked → cooked ≡ items_in given → given ≡ read
    → read ≡ lines → items ≡ map (uncooked bytes) (items_in lines)
bare lines read given bytes lent cooked from items made is_bytes is_cooked is_items is_read is_lines =
    made
    ∙ ap (λ (xs : List Item). map (uncooked lent) xs) (is_cooked ∙ is_items ∙ ap items_in (is_read ∙ is_lines))
    ∙ ap (λ (b : List ℕ). map (uncooked b) (items_in lines)) is_bytes
