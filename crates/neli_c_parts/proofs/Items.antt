-- Steps of a walk whose items are stored, with their texts.
use Rattle.std.proofs.Common.{◌≡◌, ◌∙◌, ℕ, ◌+◌, List, [], ◌∷◌, ◌++◌, length, sym, ap, arith}
use Rattle.std.proofs.Common.{length-append}
use Rattle.neli_tables_walk.specs.Shapes.{Lines}
use Rattle.neli_tables_walk.specs.Walks.{Seen}
use Rattle.neli_c_parts.specs.declared.named.NeliNamed.{NeliNamed}
use Rattle.neli_c_parts.specs.NamedItems.{Begins, begins_after, item_at, item_text, items_from}
use Rattle.neli_c_parts.specs.NamedItems.{items_text}
use Rattle.neli_c_parts.specs.Rooms.{put_at}
use Rattle.neli_c_parts.proofs.Parts.{put-nothing, put-one, put-then}

module _ (table : Lines) (item : Seen) (left rest : List Seen) (is : left ≡ item ∷ rest) where
  -- ---- one more item

  module _ (begins next : Begins) (size size' : ℕ) (step : next ≡ begins_after begins item)
      (more : size' ≡ size + length (item_text table item)) where
    first-and-later : items_from table begins size left
        ≡ item_at table begins size item ∷ items_from table next size' rest
    unfolding items_from
    first-and-later =
        ap (items_from table begins size) is
        ∙ ap (λ (b : Begins). item_at table begins size item
        ∷ items_from table b (size + length (item_text table item)) rest) (sym step)
        ∙ ap (λ (s : ℕ). item_at table begins size item ∷ items_from table next s rest) (sym more)

    pub items-more : (count count' : ℕ) (items items' all : List NeliNamed) → count' ≡ count + 1
        → items' ≡ put_at count (item_at table begins size item ∷ []) items
        → put_at count (items_from table begins size left) items ≡ all
        → put_at count' (items_from table next size' rest) items' ≡ all
    items-more count count' items items' all one stored was =
        ap (λ (k : ℕ). put_at k (items_from table next size' rest) items') one
        ∙ ap (put_at (count + 1) (items_from table next size' rest)) stored
        ∙ put-one count (item_at table begins size item) (items_from table next size' rest) items
        ∙ ap (λ (l : List NeliNamed). put_at count l items) (sym first-and-later) ∙ was

    pub count-more : (count count' n : ℕ) → count' ≡ count + 1
        → count + length (items_from table begins size left) ≡ n
        → count' + length (items_from table next size' rest) ≡ n
    count-more count count' n one was =
        let both : length (items_from table begins size left)
        ≡ length (item_at table begins size item ∷ items_from table next size' rest) =
        ap length first-and-later in
        omega (arith, one, both, was)

  -- ---- and its texts

  texts-of : items_text table left ≡ item_text table item ++ items_text table rest
  texts-of = ap (items_text table) is

  module _ (size size' : ℕ) (more : size' ≡ size + length (item_text table item)) where
    pub text-more : (out out' text : List ℕ) → out' ≡ put_at size (item_text table item) out
        → put_at size (items_text table left) out ≡ text
        → put_at size' (items_text table rest) out' ≡ text
    text-more out out' text stored was =
        ap (λ (k : ℕ). put_at k (items_text table rest) out') more
        ∙ ap (put_at (size + length (item_text table item)) (items_text table rest)) stored
        ∙ put-then size (item_text table item) (items_text table rest) out
        ∙ ap (λ (l : List ℕ). put_at size l out) (sym texts-of) ∙ was

    pub size-more : (m : ℕ) → size + length (items_text table left) ≡ m
        → size' + length (items_text table rest) ≡ m
    size-more m was =
        let both : length (items_text table left)
        ≡ length (item_text table item) + length (items_text table rest) =
        ap length texts-of ∙ length-append (item_text table item) (items_text table rest) in
        omega (arith, more, both, was)

-- ---- no more

module _ (table : Lines) (left : List Seen) (none : left ≡ []) where
  pub items-all : (begins : Begins) (size count : ℕ) (items all : List NeliNamed)
      → put_at count (items_from table begins size left) items ≡ all → items ≡ all
  unfolding items_from
  items-all begins size count items all was =
      sym (put-nothing count items)
      ∙ ap (λ (l : List Seen). put_at count (items_from table begins size l) items) (sym none) ∙ was

  pub count-all : (begins : Begins) (size count n : ℕ)
      → count + length (items_from table begins size left) ≡ n → count ≡ n
  unfolding items_from
  count-all begins size count n was =
      let zero : length (items_from table begins size left) ≡ 0 =
      ap (λ (l : List Seen). length (items_from table begins size l)) none in
      omega (arith, zero, was)

  pub text-all : (size : ℕ) (out text : List ℕ) → put_at size (items_text table left) out ≡ text
      → out ≡ text
  text-all size out text was =
      sym (put-nothing size out)
      ∙ ap (λ (l : List Seen). put_at size (items_text table l) out) (sym none) ∙ was

  pub size-all : (size m : ℕ) → size + length (items_text table left) ≡ m → size ≡ m
  size-all size m was =
      let zero : length (items_text table left) ≡ 0 =
      ap (λ (l : List Seen). length (items_text table l)) none in
      omega (arith, zero, was)
