-- The entries of a queue.
use Rattle.std.proofs.Common.{ℕ, ◌≡◌, ◌≢◌, List, [], ◌∷◌, ◌++◌, Option, Some, None, Ok, refl, sym, ap, subst, ◌∙◌}
use Rattle.neli_lent.specs.Messages.{Lent}
use Rattle.neli_session.specs.declared.noted.Noted.{Noted}
use Rattle.neli_session.specs.declared.queue.Entry.{Entry}
use Rattle.neli_session.specs.Noted.{noted_of}
use Rattle.neli_session.specs.Waiting.{AreFilled, Item, all_items, as_items, entries_in, items_of}

pub all-last : (es : List Entry) (e : Entry) → all_items (es ++ e ∷ []) ≡ all_items es ++ items_of e
all-last [] e = append-none (items_of e)
  where
    append-none : (xs : List Item) → xs ++ [] ≡ xs
    append-none [] = refl
    append-none (x ∷ xs) = ap (λ (ys : List Item). x ∷ ys) (append-none xs)
all-last (f ∷ es) e = ap (λ (ys : List Item). items_of f ++ ys) (all-last es e)
    ∙ sym (append-assoc (items_of f) (all_items es) (items_of e))
  where
    append-assoc : (xs ys zs : List Item) → (xs ++ ys) ++ zs ≡ xs ++ (ys ++ zs)
    append-assoc [] ys zs = refl
    append-assoc (x ∷ xs) ys zs = ap (λ (ws : List Item). x ∷ ws) (append-assoc xs ys zs)

pub filled-last : (es : List Entry) (e : Entry) → AreFilled es → items_of e ≢ [] → AreFilled (es ++ e ∷ [])
filled-last [] e all some = (some, tt)
filled-last (f ∷ es) e all some = (all.0, filled-last es e all.1 some)

pub some-items : (ms : List (Lent ℕ)) → ms ≢ [] → as_items ms ≢ []
some-items [] some = λ e. some refl
some-items (m ∷ ms) some = λ e. cc

-- nothing waits only where there is no entry
pub none-waits : (es : List Entry) → AreFilled es → all_items es ≡ [] → es ≡ []
none-waits [] all none = refl
none-waits (e ∷ es) all none = absurd (all.0 (first-none (items_of e) (all_items es) none))
  where
    first-none : (xs ys : List Item) → xs ++ ys ≡ [] → xs ≡ []
    first-none [] ys e = refl
    first-none (x ∷ xs) ys e = cc

-- ---- one item less

-- the messages after the first are none
pub one-left : (ms left : List (Lent ℕ)) (item : Item) (later : List Item) → ((m : Lent ℕ) (after : List (Lent ℕ))
    → ms ≡ m ∷ after → left ≡ after) → left ≡ [] → as_items ms ≡ item ∷ later → later ≡ []
one-left [] left item later passed none at = cc
one-left (m ∷ ms) left item later passed none at =
    let same : as_items ms ≡ later = cc in
    sym same ∙ ap as_items (sym (passed m ms refl) ∙ none)

-- the messages after the first are left
pub later-left : (ms left : List (Lent ℕ)) (item : Item) (later : List Item) → ((m : Lent ℕ) (after : List (Lent ℕ))
    → ms ≡ m ∷ after → left ≡ after) → as_items ms ≡ item ∷ later → as_items left ≡ later
later-left [] left item later passed at = cc
later-left (m ∷ ms) left item later passed at =
    let same : as_items ms ≡ later = cc in
    ap as_items (passed m ms refl) ∙ same

-- after the first item of the first entry, what is left of it and the other entries
pub front-left : (e rest : Entry) (es : List Entry) (item : Item) (later : List Item) → items_of e ≢ []
    → ((x : Item) (xs : List Item) → items_of e ≡ x ∷ xs → items_of rest ≡ xs)
    → items_of e ++ all_items es ≡ item ∷ later → items_of rest ++ all_items es ≡ later
front-left e rest es item later some left at = go (items_of e) refl some at
  where
    go : (xs : List Item) → items_of e ≡ xs → xs ≢ [] → xs ++ all_items es ≡ item ∷ later
        → items_of rest ++ all_items es ≡ later
    go [] is some at = absurd (some refl)
    go (x ∷ xs) is some at =
        let same : xs ++ all_items es ≡ later = cc in
        ap (λ (ys : List Item). ys ++ all_items es) (left x xs is) ∙ same

-- after the only item of the first entry, the other entries
pub front-gone : (e : Entry) (es : List Entry) (item : Item) (later : List Item) → items_of e ≢ []
    → ((x : Item) (xs : List Item) → items_of e ≡ x ∷ xs → xs ≡ [])
    → items_of e ++ all_items es ≡ item ∷ later → all_items es ≡ later
front-gone e es item later some none at = go (items_of e) refl some at
  where
    go : (xs : List Item) → items_of e ≡ xs → xs ≢ [] → xs ++ all_items es ≡ item ∷ later → all_items es ≡ later
    go [] is some at = absurd (some refl)
    go (x ∷ xs) is some at =
        let same : xs ++ all_items es ≡ later = cc in
        ap (λ (ys : List Item). ys ++ all_items es) (sym (none x xs is)) ∙ same

-- ---- the last entry

last-cancel : (xs ys : List Entry) (x y : Entry) → xs ++ x ∷ [] ≡ ys ++ y ∷ [] → xs ≡ ys
last-cancel [] [] x y e = refl
last-cancel [] (z ∷ []) x y e = cc
last-cancel [] (z ∷ w ∷ ys) x y e = cc
last-cancel (z ∷ []) [] x y e = cc
last-cancel (z ∷ w ∷ xs) [] x y e = cc
last-cancel (z ∷ xs) (w ∷ ys) x y e =
    let rest : xs ++ x ∷ [] ≡ ys ++ y ∷ [] = cc in
    let first : z ≡ w = cc in
    ap (λ (v : Entry). v ∷ xs) first ∙ ap (λ (vs : List Entry). w ∷ vs) (last-cancel xs ys x y rest)

-- the entries without the last
pub back-last : (front : Option Entry) (later less : List Entry) (l : Entry) → later ≡ less ++ l ∷ []
    → (es : List Entry) (e : Entry) → entries_in front later ≡ es ++ e ∷ [] → entries_in front less ≡ es
back-last None later less l is es e at = last-cancel less es l e (sym is ∙ at)
back-last (Some f) later less l is es e at =
    last-cancel (f ∷ less) es l e (ap (λ (xs : List Entry). f ∷ xs) (sym is) ∙ at)

-- a queue with a first entry has something
pub some-waits : (front : Option Entry) (later : List Entry) (e : Entry) → front ≡ Some e
    → AreFilled (entries_in front later) → all_items (entries_in front later) ≢ []
some-waits None later e is filled = cc
some-waits (Some f) later e is filled = λ none.
    let gone = none-waits (f ∷ later) filled none in
    cc

-- ---- what is noted of the first message

pub noted-first : (ms left : List (Lent ℕ)) (r : Noted) (item : Item) (later : List Item)
    → ((m : Lent ℕ) (after : List (Lent ℕ)) → ms ≡ m ∷ after → (left ≡ after) × (r ≡ noted_of (Ok m)))
    → as_items ms ≡ item ∷ later → r ≡ noted_of item
noted-first [] left r item later passed at = cc
noted-first (m ∷ ms) left r item later passed at =
    let same : Ok m ≡ item = cc in
    (passed m ms refl).1 ∙ ap (λ (x : Item). noted_of x) same

-- ---- what is left of the first entry

pub rest-filled : (xs ys : List Item) → xs ≢ []
    → ((item : Item) (later : List Item) → xs ≡ item ∷ later → (ys ≡ later) × (later ≢ [])) → ys ≢ []
rest-filled [] ys some left = absurd (some refl)
rest-filled (x ∷ xs) ys some left = λ e. (left x xs refl).1 (sym (left x xs refl).0 ∙ e)

-- the first item is the first entry's
pub front-item : (xs ys : List Item) (item : Item) (later : List Item) → xs ≢ [] → xs ++ ys ≡ item ∷ later
    → (rest : List Item) × (xs ≡ item ∷ rest)
front-item [] ys item later some at = absurd (some refl)
front-item (x ∷ xs) ys item later some at =
    let same : x ≡ item = cc in
    (xs, ap (λ (y : Item). y ∷ xs) same)

-- the entries behind the first
pub first-filled : (front : Option Entry) (later : List Entry) (e : Entry) → front ≡ Some e
    → AreFilled (entries_in front later) → (items_of e ≢ []) × AreFilled later
first-filled None later e is filled = cc
first-filled (Some f) later e is filled =
    let same : f ≡ e = cc in
    (subst (λ (g : Entry). items_of g ≢ []) same filled.0, filled.1)
