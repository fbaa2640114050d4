-- Loops that print: what is printed so far, and what is left.
use Rattle.std.proofs.Common.{◌≡◌, ℕ, ◌+◌, ◌<◌, ◌≤◌, List, [], ◌∷◌, ◌++◌, drop, get_or, length, map}
use Rattle.std.proofs.Common.{sym, ap, ◌∙◌, append_assoc, append-nil, Bool, codes, Ok, Result}
use Rattle.std.proofs.Output.{has_written_append, has_written_of_eq}
use Rattle.std.proofs.lemmas.List.{drop_all, drop_more}
use Rattle.std.specs.Borrow.{Bor}
use Rattle.std.specs.Fmt.{HasWritten, IsPlainFormatter}
use Rattle.std.specs.declared.fmt.Formatter.{Formatter}
use Rattle.neli_lent.specs.Messages.{Lent}
use Rattle.neli_print.specs.MessageFlags.{flag_view}
use Rattle.neli_tables.specs.declared.tables.Tables.{Tables}
use Rattle.neli_tables_walk.specs.Visited.{Visited, visited}
use Rattle.neli_tables_walk.specs.Walks.{Seen}
use Rattle.neli_wire.specs.declared.errors.DeError.{DeError}
use Rattle.neli_print.specs.declared.flags.FlagForm.{FlagForm}
use Rattle.neli_print.specs.declared.flags.Left.{Left}
use Rattle.neli_print.specs.declared.head.Header.{Header}
use Rattle.neli_print.specs.declared.item.Open.{Open}
use Rattle.neli_print.specs.Flags.{after_flag, flag_text, flags_from, rest_text}
use Rattle.neli_print.specs.Heads.{header_of}
use Rattle.neli_print.specs.Items.{after_visit}
use Rattle.neli_print.specs.ItemsJson.{items_json, visit_json}
use Rattle.neli_print.specs.ItemsText.{items_text, visit_text}
use Rattle.neli_print.specs.Messages.{json_from, lines_from, message_json, message_text}
use Rattle.neli_print.specs.Messages.{place_behind}
use Rattle.neli_print.specs.Names.{Lines}

-- a piece is printed to a plain formatter
abbrev pub Prints :
    {W : Type 0} → (W → List ℕ → W → Type 0) → Formatter W → List ℕ → Formatter W → Type 0
Prints took f piece g = IsPlainFormatter f → HasWritten took f piece g

-- what is printed since the start, and what is left, are all
abbrev pub IsPrinted :
    {W : Type 0} → (W → List ℕ → W → Type 0) → Formatter W → Formatter W → List ℕ → List ℕ
    → Type 0
IsPrinted took start f left all =
    IsPlainFormatter start
    → (done : List ℕ) × HasWritten took start done f × (done ++ left ≡ all)

-- a piece of what was left is printed
pub printed_more :
    {W : Type 0} (took : W → List ℕ → W → Type 0) (start f g : Formatter W)
    (piece rest left all : List ℕ) → Prints took f piece g → left ≡ piece ++ rest
    → IsPrinted took start f left all → IsPrinted took start g rest all
printed_more took start f g piece rest left all prints is so_far = λ plain.
    let i = so_far plain in (
      i.0 ++ piece,
      has_written_append took start i.0 f piece g i.1 (prints i.1.plain),
      append_assoc i.0 piece rest ∙ ap (λ (l : List ℕ). i.0 ++ l) (sym is) ∙ i.2,
    )

-- all that was left is printed
pub printed_all :
    {W : Type 0} (took : W → List ℕ → W → Type 0) (start f g : Formatter W)
    (last left all : List ℕ) → Prints took f last g → left ≡ last
    → IsPrinted took start f left all → Prints took start all g
printed_all took start f g last left all prints is so_far = λ plain.
    let i = so_far plain in
    has_written_of_eq took start (i.0 ++ last) all g
    (ap (λ (l : List ℕ). i.0 ++ l) (sym is) ∙ i.2)
    (has_written_append took start i.0 f last g i.1 (prints i.1.plain))

-- nothing is left
pub printed_end :
    {W : Type 0} (took : W → List ℕ → W → Type 0) (start f : Formatter W) (left all : List ℕ)
    → left ≡ [] → IsPrinted took start f left all → Prints took start all f
printed_end took start f left all is so_far = λ plain.
    let i = so_far plain in
    has_written_of_eq took start i.0 all f
    (sym (append-nil i.0) ∙ ap (λ (l : List ℕ). i.0 ++ l) (sym is) ∙ i.2) i.1

-- ---- flags

flags_here : (rows : List (ℕ × Bor (List ℕ))) (i : ℕ) (d : ℕ × Bor (List ℕ)) → i < length rows
    → map flag_view (drop i rows) ≡ flag_view (get_or rows i d) ∷ map flag_view (drop (i + 1) rows)
flags_here rows i d within = ap (map flag_view) (drop_more rows i d within)

-- a row is printed where it is named
pub flag_printed :
    {W : Type 0} (took : W → List ℕ → W → Type 0) (start f g : Formatter W) (form : FlagForm)
    (set : ℕ) (left after : Left) (rows : List (ℕ × Bor (List ℕ))) (i : ℕ)
    (row d : ℕ × Bor (List ℕ)) (all : List ℕ) → i < length rows → row ≡ get_or rows i d
    → after ≡ after_flag (flag_view row) set left
    → Prints took f (flag_text form set left (flag_view row)) g
    → IsPrinted took start f (flags_from form set left (map flag_view (drop i rows))) all
    → IsPrinted took start g (flags_from form set after (map flag_view (drop (i + 1) rows))) all
flag_printed took start f g form set left after rows i row d all within at is prints so_far =
    let rest = map flag_view (drop (i + 1) rows) in
    printed_more took start f g (flag_text form set left (flag_view row))
    (flags_from form set after rest) _ all prints
    (ap (flags_from form set left) (flags_here rows i d within
    ∙ ap (λ (r : ℕ × Bor (List ℕ)). flag_view r ∷ rest) (sym at))
    ∙ ap (λ (a : Left). flag_text form set left (flag_view row) ++ flags_from form set a rest)
    (sym is))
    so_far

-- behind the last row the bits without a name are printed
pub flags_printed :
    {W : Type 0} (took : W → List ℕ → W → Type 0) (start f g : Formatter W) (form : FlagForm)
    (set : ℕ) (left : Left) (rows : List (ℕ × Bor (List ℕ))) (i : ℕ) (all : List ℕ)
    → length rows ≤ i → Prints took f (rest_text form left) g
    → IsPrinted took start f (flags_from form set left (map flag_view (drop i rows))) all
    → Prints took start all g
flags_printed took start f g form set left rows i all over prints so_far =
    printed_all took start f g (rest_text form left) _ all prints
    (ap (λ (rs : List (ℕ × Bor (List ℕ))). flags_from form set left (map flag_view rs))
    (drop_all i rows over))
    so_far

-- ---- items of a walk

-- an item, by what is said where it is visited
pub visit_json_printed :
    {W : Type 0} (took : W → List ℕ → W → Type 0) (start f g : Formatter W) (table : Lines)
    (o after : Open) (v : Visited) (item : Seen) (left later : List Seen) (all : List ℕ)
    → visited item ≡ v → left ≡ item ∷ later → after ≡ after_visit o v
    → Prints took f (visit_json table o v) g
    → IsPrinted took start f (items_json table o left) all
    → IsPrinted took start g (items_json table after later) all
visit_json_printed took start f g table o after v item left later all seen is opened prints so_far =
    printed_more took start f g (visit_json table o v) (items_json table after later)
    (items_json table o left) all prints
    (ap (items_json table o) is
    ∙ ap (λ (w : Visited). visit_json table o w ++ items_json table (after_visit o w) later) seen
    ∙ ap (λ (a : Open). visit_json table o v ++ items_json table a later) (sym opened))
    so_far

pub visit_text_printed :
    {W : Type 0} (took : W → List ℕ → W → Type 0) (start f g : Formatter W) (coloured : Bool)
    (table : Lines) (level : ℕ) (v : Visited) (item : Seen) (left later : List Seen)
    (all : List ℕ) → visited item ≡ v → left ≡ item ∷ later
    → Prints took f (visit_text coloured table level v) g
    → IsPrinted took start f (items_text coloured table level left) all
    → IsPrinted took start g (items_text coloured table level later) all
visit_text_printed took start f g coloured table level v item left later all seen is prints so_far =
    printed_more took start f g (visit_text coloured table level v)
    (items_text coloured table level later) (items_text coloured table level left) all prints
    (ap (items_text coloured table level) is
    ∙ ap (λ (w : Visited). visit_text coloured table level w ++ items_text coloured table level later) seen)
    so_far

-- ---- messages of a datagram

abbrev pub Message : Type 0
Message = Result (Lent ℕ) DeError

pub message_text_printed :
    {W : Type 0} (took : W → List ℕ → W → Type 0) (start f g : Formatter W) (coloured : Bool)
    (tables : Tables) (protocol place after : ℕ) (message : Lent ℕ) (left later : List Message)
    (all : List ℕ) (by : Tables) (header : Header) (payload : List ℕ) → by ≡ tables
    → header ≡ header_of protocol message.0 → payload ≡ message.1 → left ≡ Ok message ∷ later
    → after ≡ place_behind place message
    → Prints took f (message_text coloured by header payload) g
    → IsPrinted took start f (lines_from coloured tables protocol place left) all
    → IsPrinted took start g (lines_from coloured tables protocol after later) all
message_text_printed took start f g coloured tables protocol place after message left later all by
    header payload t h p is behind prints so_far =
    let text = message_text coloured by header payload in
    printed_more took start f g text (lines_from coloured tables protocol after later)
    (lines_from coloured tables protocol place left) all prints
    (ap (lines_from coloured tables protocol place) is
    ∙ ap (λ (n : ℕ). message_text coloured tables (header_of protocol message.0) message.1
    ++ lines_from coloured tables protocol n later) (sym behind)
    ∙ ap (λ (l : List ℕ). l ++ lines_from coloured tables protocol after later)
    (ap (λ (b : Tables). message_text coloured b (header_of protocol message.0) message.1) (sym t)
    ∙ ap (λ (b : Header). message_text coloured by b message.1) (sym h)
    ∙ ap (message_text coloured by header) (sym p)))
    so_far

pub message_json_printed :
    {W : Type 0} (took : W → List ℕ → W → Type 0) (start f g : Formatter W) (tables : Tables)
    (protocol place after : ℕ) (message : Lent ℕ) (left later : List Message) (all : List ℕ)
    (by : Tables) (header : Header) (payload : List ℕ) → by ≡ tables
    → header ≡ header_of protocol message.0 → payload ≡ message.1 → left ≡ Ok message ∷ later
    → after ≡ place_behind place message
    → Prints took f (message_json by header payload ++ codes "\n") g
    → IsPrinted took start f (json_from tables protocol place left) all
    → IsPrinted took start g (json_from tables protocol after later) all
message_json_printed took start f g tables protocol place after message left later all by header
    payload t h p is behind prints so_far =
    let text = message_json by header payload in
    let rest = json_from tables protocol after later in
    printed_more took start f g (text ++ codes "\n") rest
    (json_from tables protocol place left) all prints
    (ap (json_from tables protocol place) is
    ∙ ap (λ (n : ℕ). message_json tables (header_of protocol message.0) message.1
    ++ (codes "\n" ++ json_from tables protocol n later)) (sym behind)
    ∙ ap (λ (l : List ℕ). l ++ (codes "\n" ++ rest))
    (ap (λ (b : Tables). message_json b (header_of protocol message.0) message.1) (sym t)
    ∙ ap (λ (b : Header). message_json by b message.1) (sym h)
    ∙ ap (message_json by header) (sym p))
    ∙ sym (append_assoc text (codes "\n") rest))
    so_far
