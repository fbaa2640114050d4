-- The lists of requests that were given up, one request more at a time.
use Rattle.std.proofs.Common.{ℕ, ◌≡◌, ◌≢◌, Bool, true, false, ◌||◌, ◌&&◌, List, [], ◌∷◌, ◌++◌, length, Option, Some, None}
use Rattle.std.proofs.Common.{Ok, Err, refl, sym, ap, subst, ◌∙◌, option_map, Result, arith, nat_eq}
use Rattle.std.specs.Prelude.{if◌then◌else◌, ◌==◌}
use Rattle.std.specs.List.{list_any}
use Rattle.std.proofs.lemmas.Bool.{eqb-false, eqb-true, ne_eqb}
use Rattle.std.specs.HashMap.{HashMap, Updates}
use Rattle.neli_wire.specs.declared.errors.DeError.{DeError}
use Rattle.neli_reader.specs.Cuts.{Cut}
use Rattle.neli_reader.specs.laws.Cuts.{cut_of-end}
use Rattle.neli_reader.specs.laws.Messages.{layout_with-placed}
use Rattle.neli_lent.specs.Messages.{Lent, lent_message, messages_in}
use Rattle.neli_lent.specs.Walks.{items_of}
use Rattle.neli_deliveries.specs.declared.delivery.Delivery.{Delivery}
use Rattle.neli_answers.specs.declared.answering.Answering.{Answering}
use Rattle.neli_deliveries.specs.Deliveries.{head_of, heading_of}
use Rattle.neli_deliveries.specs.Readings.{Item}
use Rattle.neli_deliveries.specs.declared.delivery.Heading.{Heading}
use Rattle.neli_router.specs.declared.given_up.GivenUp.{GivenUp}
use Rattle.neli_router.specs.GivenUp.{finishes, ends_it, has_end, is_given_up, kept_of, ungrouped}
use Rattle.neli_router.specs.Rule.{ends_at, item_of}
use Rattle.neli_router.specs.Verdicts.{heard_after, heard_of, heard_with, is_last}
use Rattle.neli_router.specs.declared.verdict.Heard.{Heard}

emptied : {A : Type 0} → Option (List A) → Option (List A)
emptied o = option_map (λ _. []) o

differ : (n q : ℕ) → (n == q) ≡ false → Some q ≡ Some n → ⊥
differ n q isnt e = (let same : q ≡ n = cc in eqb-false n q isnt (sym same))

module _ {A : Type 0} (port : ℕ) (messages : List (Lent ℕ)) (g : GivenUp) (old new : Option ℕ → Option (List A))
    (others : (w : Option ℕ) → w ≢ Some g.number → new w ≡ old w) where
  -- the list of a request that reached its end is removed
  closed-at : (q : ℕ) (b : Bool) → (g.number == q) ≡ b → list_any (ends_it port g) messages ≡ true
      → new (Some g.number) ≡ None → new (Some q) ≡ kept_of port (g ∷ []) messages (Some q) (old (Some q))
  closed-at q true is ends closed =
      let same : g.number ≡ q = eqb-true g.number q is in
      rw (is, ends) (ap (λ (n : ℕ). new (Some n)) (sym same) ∙ closed)
  closed-at q false isnt ends closed = rw isnt (others (Some q) (λ e. differ g.number q isnt e))

  -- of another it is emptied
  cleared-at : (q : ℕ) (b : Bool) → (g.number == q) ≡ b → list_any (ends_it port g) messages ≡ false
      → new (Some g.number) ≡ option_map (λ _. []) (old (Some g.number))
      → new (Some q) ≡ kept_of port (g ∷ []) messages (Some q) (old (Some q))
  cleared-at q true is goes cleared =
      let same : g.number ≡ q = eqb-true g.number q is in
      rw (is, goes) (subst (λ (n : ℕ). new (Some n) ≡ option_map (λ _. []) (old (Some n))) same cleared)
  cleared-at q false isnt goes cleared = rw isnt (others (Some q) (λ e. differ g.number q isnt e))

  pub closed-one : list_any (ends_it port g) messages ≡ true → new (Some g.number) ≡ None
      → (w : Option ℕ) → new w ≡ kept_of port (g ∷ []) messages w (old w)
  closed-one ends closed None = others None (λ e. cc)
  closed-one ends closed (Some q) = closed-at q (g.number == q) refl ends closed

  pub cleared-one : list_any (ends_it port g) messages ≡ false
      → new (Some g.number) ≡ option_map (λ _. []) (old (Some g.number))
      → (w : Option ℕ) → new w ≡ kept_of port (g ∷ []) messages w (old w)
  cleared-one goes cleared None = others None (λ e. cc)
  cleared-one goes cleared (Some q) = cleared-at q (g.number == q) refl goes cleared

-- ---- deliveries that wait when a request is given up

-- the number that wait
abbrev pub waiting_count : {A : Type 0} → Option (List A) → ℕ
waiting_count None = 0
waiting_count (Some xs) = length xs

-- the first delivery that waits exists
pub first-there : (o : Option (List Delivery)) (h : Heading) → option_map heading_of (head_of o) ≡ Some h
    → (d : Delivery) × (ds : List Delivery) × (o ≡ Some (d ∷ ds)) × (heading_of d ≡ h)
first-there None h is = cc
first-there (Some []) h is = cc
first-there (Some (d ∷ ds)) h is = (d, ds, refl, (let same : heading_of d ≡ h = cc in same))

-- no delivery waits
pub none-there : (o : Option (List Delivery)) (ds : List Delivery) → option_map heading_of (head_of o) ≡ None
    → o ≡ Some ds → ds ≡ []
none-there None ds is e = cc
none-there (Some []) ds is e = cc
none-there (Some (d ∷ rest)) ds is e = cc

pub or_false : (b : Bool) → (b || false) ≡ b
or_false true = refl
or_false false = refl

or_assoc : (a b c : Bool) → ((a || b) || c) ≡ (a || (b || c))
or_assoc true b c = refl
or_assoc false b c = refl

-- those that were looked at so far, and this one
pub finishes-more : (answering : Answering) (last : Bool) (all left : List Delivery) (d : Delivery) (h : Heading)
    → heading_of d ≡ h → (last || finishes answering (d ∷ left)) ≡ finishes answering all
    → ((last || is_last answering h) || finishes answering left) ≡ finishes answering all
finishes-more answering last all left d h is so_far =
    or_assoc last (is_last answering h) (finishes answering left)
    ∙ (ap (λ (x : Heading). last || (is_last answering x || finishes answering left)) (sym is) ∙ so_far)

-- ---- messages that are walked

-- one of these items is a message that passes
abbrev pub any_item : {A : Type 0} → (A → Bool) → List (Result A DeError) → Bool
any_item p [] = false
any_item p (Ok a ∷ items) = p a || any_item p items
any_item p (Err e ∷ items) = any_item p items

any_values : {A : Type 0} (p : A → Bool) (values : List A) (fault : Option DeError)
    → any_item p (items_of (values, fault)) ≡ list_any p values
any_values p [] None = refl
any_values p [] (Some e) = refl
any_values p (a ∷ values) fault = ap (λ b. p a || b) (any_values p values fault)

pub any_items : (p : Lent ℕ → Bool) (bytes : List ℕ)
    → any_item p (items_of (messages_in (λ n. n) bytes)) ≡ list_any p (messages_in (λ n. n) bytes).0
any_items p bytes = (let cut = messages_in (λ n. n) bytes in any_values p cut.0 cut.1)

-- no bytes have no messages
pub no-messages : messages_in {K = ℕ} (λ n. n) [] ≡ ([], None)
unfolding messages_in
no-messages = cut_of-end (lent_message (λ n. n)) (layout_with-placed (λ n. n) _) (omega arith)

pub no-messages-there : (messages_in {K = ℕ} (λ n. n) []).0 ≡ []
no-messages-there = ap (λ (cut : Cut (Lent ℕ)). cut.0) no-messages

-- one of the messages passes, or none does
pub any-found : (p : Lent ℕ → Bool) (items later : List (Result (Lent ℕ) DeError)) (m : Lent ℕ) (all : List (Lent ℕ))
    → items ≡ Ok m ∷ later → p m ≡ true → any_item p items ≡ list_any p all → true ≡ list_any p all
any-found p items later m all is passes so = sym (ap (λ b. b || any_item p later) passes)
    ∙ sym (ap (any_item p) is) ∙ so

pub any-none : (p : Lent ℕ → Bool) (items : List (Result (Lent ℕ) DeError)) (all : List (Lent ℕ))
    → items ≡ [] → any_item p items ≡ list_any p all → false ≡ list_any p all
any-none p items all is so = sym (ap (any_item p) is) ∙ so

-- ---- what is kept

none_ends : (port : ℕ) (gs : List GivenUp) (q : ℕ) → has_end port gs [] q ≡ false
none_ends port [] q = refl
none_ends port (g ∷ gs) q = elim (g.number == q) as (λ b. ((b && false) || has_end port gs [] q) ≡ false)
    [ true ↦ none_ends port gs q | false ↦ none_ends port gs q ]

first_ends : (a b c d : Bool) → (a || c) ≡ false → (c ≡ false → d ≡ false) → ((a && b) || d) ≡ false
first_ends true b c d none later = cc
first_ends false b c d none later = later none

-- a request at its end was given up
end_given_up : (port : ℕ) (gs : List GivenUp) (messages : List (Lent ℕ)) (q : ℕ) → is_given_up gs (Some q) ≡ false
    → has_end port gs messages q ≡ false
end_given_up port [] messages q none = refl
end_given_up port (g ∷ gs) messages q none =
    first_ends (g.number == q) (list_any (ends_it port g) messages) (is_given_up gs (Some q)) (has_end port gs messages q)
    none (end_given_up port gs messages q)

-- the lists that were not given up are kept whole
pub kept-apart : {A : Type 0} (port : ℕ) (gs : List GivenUp) (messages : List (Lent ℕ)) (w : Option ℕ)
    (o : Option (List A)) → is_given_up gs w ≡ false → kept_of port gs messages w o ≡ o
kept-apart port gs messages None o none = refl
kept-apart port gs messages (Some q) o none = rw (end_given_up port gs messages q none, none) refl

cleared-gained : {A : Type 0} (o : Option (List A)) (share : List A)
    → option_map {T = List A} {U = List A} (λ _. []) (option_map (λ ds. ds ++ share) o)
    ≡ option_map {T = List A} {U = List A} (λ _. []) o
cleared-gained None share = refl
cleared-gained (Some xs) share = refl

-- of those given up nothing is kept, without an end
pub kept-none-ended : {A : Type 0} (port : ℕ) (gs : List GivenUp) (messages : List (Lent ℕ)) (q : ℕ)
    (o : Option (List A)) (share : List A) → messages ≡ [] → is_given_up gs (Some q) ≡ true
    → kept_of port gs messages (Some q) (option_map (λ ds. ds ++ share) o) ≡ option_map (λ _. []) o
kept-none-ended port gs messages q o share none is =
    rw none (rw (none_ends port gs q, is) (cleared-gained o share))

-- the same in the words of a datagram that arrived for groups
pub kept-grouped : {A : Type 0} (port : ℕ) (gs : List GivenUp) (messages all : List (Lent ℕ)) (groups : List ℕ) (q : ℕ)
    (o : Option (List A)) (share : List A) → messages ≡ [] → groups ≢ [] → is_given_up gs (Some q) ≡ true
    → kept_of port gs messages (Some q) (option_map (λ ds. ds ++ share) o)
    ≡ (if has_end port gs (ungrouped groups all) q then None else option_map (λ _. []) o)
kept-grouped port gs messages all [] q o share none some is = absurd (some refl)
kept-grouped port gs messages all (g ∷ groups) q o share none some is =
    rw (none_ends port gs q) (kept-none-ended port gs messages q o share none is)

-- both over the result of a call on the waiting lists, and over those given up
pub grouped-kept : {A : Type 0} (port port' : ℕ) (gs gs' : List GivenUp) (messages all : List (Lent ℕ))
    (groups : List ℕ) (q : ℕ) (new mid old : Option (List A)) (share : List A) → port' ≡ port → gs' ≡ gs
    → new ≡ kept_of port' gs' messages (Some q) mid → mid ≡ option_map (λ ds. ds ++ share) old → messages ≡ []
    → groups ≢ [] → is_given_up gs (Some q) ≡ true
    → new ≡ (if has_end port gs (ungrouped groups all) q then None else option_map (λ _. []) old)
grouped-kept {A = A} port port' gs gs' messages all groups q new mid old share p g n m none some is =
    n ∙ ap (λ (o : Option (List A)). kept_of port' gs' messages (Some q) o) m
    ∙ ap (λ (k : ℕ). kept_of k gs' messages (Some q) (option_map (λ ds. ds ++ share) old)) p
    ∙ ap (λ (xs : List GivenUp). kept_of port xs messages (Some q) (option_map (λ ds. ds ++ share) old)) g
    ∙ kept-grouped port gs messages all groups q old share none some is

pub failed-kept : {A : Type 0} (port : ℕ) (gs gs' : List GivenUp) (messages : List (Lent ℕ)) (q : ℕ)
    (new mid old : Option (List A)) (share : List A) → gs' ≡ gs
    → new ≡ kept_of port gs' messages (Some q) mid → mid ≡ option_map (λ ds. ds ++ share) old → messages ≡ []
    → is_given_up gs (Some q) ≡ true → new ≡ option_map (λ _. []) old
failed-kept {A = A} port gs gs' messages q new mid old share g n m none is =
    n ∙ ap (λ (o : Option (List A)). kept_of port gs' messages (Some q) o) m
    ∙ ap (λ (xs : List GivenUp). kept_of port xs messages (Some q) (option_map (λ ds. ds ++ share) old)) g
    ∙ kept-none-ended port gs messages q old share none is

-- ---- what is known of answers

-- an entry is added: it exists, and the others stay
pub heard-put : {S : Type 0} (m n : HashMap ℕ Heard S) (q : ℕ) (x : Heard) → Updates nat_eq m n q (Some x)
    → (heard_of n (Some q) ≡ Some x) × ((w : Option ℕ) → w ≢ Some q → heard_of n w ≡ heard_of m w)
heard-put m n q x u = (u.1, others)
  where
    others : (w : Option ℕ) → w ≢ Some q → heard_of n w ≡ heard_of m w
    others None not = refl
    others (Some p) not = u.2 p (ne_eqb q p (λ e. not (ap (λ (k : ℕ). Some k) (sym e))))

-- what is heard by an item, said at once
pub heard-by : {K P : Type 0} (number_of : K → ℕ) (needs numbered after ended : Bool) (h : Heading) (d : Delivery)
    (x given : Item K P) (o new : Option Heard) → ended ≡ ends_at number_of needs numbered after x → h ≡ heading_of d
    → given ≡ item_of number_of needs numbered after x → new ≡ option_map (heard_after ended h given) o
    → new ≡ option_map (heard_with number_of needs numbered after d x) o
heard-by {K = K} {P = P} number_of needs numbered after ended h d x given None new e l i is = is
heard-by {K = K} {P = P} number_of needs numbered after ended h d x given (Some y) new e l i is =
    is ∙ ap (λ (b : Bool). Some (heard_after b h given y)) e
    ∙ ap (λ (k : Heading). Some (heard_after (ends_at number_of needs numbered after x) k given y)) l
    ∙ ap (λ (z : Item K P). Some (heard_after (ends_at number_of needs numbered after x) (heading_of d) z y)) i
