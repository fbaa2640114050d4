-- What the column of a row says of it.
use Rattle.std.proofs.Common.{◌≡◌, ◌∙◌, ◌++◌, ◌≤◌, ℕ, Bool, true, false, List, codes, length, Option, Some, None}
use Rattle.std.proofs.Common.{[], ◌∷◌, ap, append_assoc, arith, refl, sym}
use Rattle.std.specs.Prelude.{◌||◌, IfSome, if◌then◌else◌, is_some, slice_range}
use Rattle.std.proofs.lemmas.Option.{none-some, same_Some}
use Rattle.neli_tables.specs.declared.kind.Kind.{Kind}
use Rattle.neli_tables.specs.declared.number.Span.{Span}
use Rattle.neli_tables.specs.declared.options.Options.{Options}
use Rattle.neli_tables.specs.Columns.{ColumnSeen, column_of, column_with, is_field, is_formatted, plain_kind}
use Rattle.neli_tables.specs.Families.{Lines}
use Rattle.neli_tables.specs.Lines.{LineSeen}
use Rattle.neli_tables.specs.Options.{options_of}
use Rattle.neli_tables.specs.Plain.{plain_name}
use Rattle.neli_tables_walk.specs.declared.number.Number.{Number}
use Rattle.neli_tables_walk.specs.FieldLists.{Printed, PrintsNumber, field_text_by, member_by, member_with, text_if}
use Rattle.neli_tables_walk.specs.Names.{name_json, name_text}
use Rattle.neli_tables_walk.specs.Numbers.{plain_number_json}
use Rattle.neli_tables_walk.proofs.ValueTexts.{kept_text}
use Rattle.neli_tables_walk.specs.FieldBytes.{before_zero, bytes_at, field_bytes, keeps_part, option_before_zero, span_bytes}

-- where a field lies, what it is, and its name as it is printed
pub record Says (row : LineSeen) (c : ColumnSeen) : Type 0 where
  pub name : List ℕ
  pub array : (options_of row).array ≡ false
  pub hex : (options_of row).hex ≡ false
  pub values : (options_of row).values ≡ None
  pub flags : (options_of row).flags ≡ None
  pub kind : (options_of row).kind ≡ Some c.kind
  pub span : row.span ≡ Some (record { first = c.start; last = c.stop })
  pub plain : plain_name row ≡ Some name
  pub text : c.text ≡ codes " " ++ (name ++ codes " ")
  pub json : c.json ≡ codes "\"" ++ (name ++ codes "\":")

parts_of : (span : Option Span) (kind : Option Kind) (name : Option (List ℕ)) (c : ColumnSeen)
    → column_with span kind name ≡ Some c
    → (s : Span) × (k : Kind) × (n : List ℕ) × (span ≡ Some s) × (kind ≡ Some k) × (name ≡ Some n)
    × (record {
      start = s.first;
      stop = s.last;
      kind = k;
      text = codes " " ++ (n ++ codes " ");
      json = codes "\"" ++ (n ++ codes "\":");
    } ≡ c)
parts_of (Some s) (Some k) (Some n) c is = (s, k, n, refl, refl, refl, same_Some _ _ is)
parts_of None kind name c is = absurd (none-some c is)
parts_of (Some s) None name c is = absurd (none-some c is)
parts_of (Some s) (Some k) None c is = absurd (none-some c is)

if_some : {A : Type 0} (b : Bool) (x : Option A) (c : A) → (if b then x else None) ≡ Some c → x ≡ Some c
if_some true x c is = is
if_some false x c is = absurd (none-some c is)

if_none : {A : Type 0} (b : Bool) (x : Option A) (c : A) → (if b then None else x) ≡ Some c → (b ≡ false) × (x ≡ Some c)
if_none true x c is = absurd (none-some c is)
if_none false x c is = (refl, is)

neither : (a b : Bool) → (a || b) ≡ false → (a ≡ false) × (b ≡ false)
neither true b is = cc
neither false b is = (refl, is)

none_is : {A : Type 0} (o : Option A) → is_some o ≡ false → o ≡ None
none_is (Some x) is = cc
none_is None is = refl

-- the kind of one value without a name is that of the options
pub kind_alone : (o : Options) (k : Kind) → plain_kind o ≡ Some k → o.kind ≡ Some k
kind_alone o k is = (if_none (is_formatted o) o.kind k is).1

pub column_says : (row : LineSeen) (c : ColumnSeen) → column_of row ≡ Some c → Says row c
column_says row c is =
    let o = options_of row in
    let p = parts_of row.span (plain_kind o) (plain_name row) c (if_some (is_field row.word) _ c is) in
    let k = if_none (is_formatted o) o.kind p.1 p.4 in
    let w = neither (o.array || o.hex) (is_some o.values || is_some o.flags) k.0 in
    let several = neither o.array o.hex w.0 in
    let named = neither (is_some o.values) (is_some o.flags) w.1 in
    record {
      name = p.2;
      array = several.0;
      hex = several.1;
      values = none_is o.values named.0;
      flags = none_is o.flags named.1;
      kind = k.1 ∙ ap (λ (x : ColumnSeen). Some x.kind) p.6;
      span = p.3 ∙ ap (λ (x : ColumnSeen). Some (record { first = x.start; last = x.stop })) p.6;
      plain = p.5;
      text = sym (ap (λ (x : ColumnSeen). x.text) p.6);
      json = sym (ap (λ (x : ColumnSeen). x.json) p.6);
    }

bytes_there : (part : Bool) (start stop : ℕ) (bytes : List ℕ) → start ≤ stop → stop ≤ length bytes
    → bytes_at part start stop bytes ≡ Some (slice_range bytes start stop)
bytes_there part start stop bytes before within = grind arith

-- the bytes of a field at its column
pub field_there : (row : LineSeen) (c : ColumnSeen) (bytes part : List ℕ) → Says row c → c.start ≤ c.stop
    → c.stop ≤ length bytes → part ≡ slice_range bytes c.start c.stop → before_zero (Some c.kind) part ≡ part
    → field_bytes row bytes ≡ Some part
field_there row c bytes part says before within is whole =
    let o = options_of row in
    ap (λ s. span_bytes o s bytes) says.span
    ∙ ap (option_before_zero o.kind) (bytes_there (keeps_part o) c.start c.stop bytes before within ∙ ap (λ (b : List ℕ). Some b) (sym is))
    ∙ ap (λ k. option_before_zero k (Some part)) says.kind
    ∙ ap (λ (b : List ℕ). Some b) whole

-- what holds of a value, if there is one
pub if_some_from : {A : Type 0} {Q : A → Type 0} (o : Option A) → ((x : A) → o ≡ Some x → Q x) → IfSome o Q
if_some_from (Some x) f = f x refl
if_some_from None f = tt

module _ (value : Printed) (before : List ℕ) (table : Lines) (row : LineSeen) (c : ColumnSeen) (bytes : List ℕ)
    (n : Number) (is : column_of row ≡ Some c) (prints : PrintsNumber value before row bytes n) where
  name_is : (column_says row c is).name ≡ name_text row.name
  name_is = kept_text row (column_says row c is).name (sym (column_says row c is).plain)

  -- a field that is a number: its name between blanks, and the digits
  pub field_numbered : before ≡ codes " " → c.text ++ plain_number_json n ≡ field_text_by value table bytes row
  field_numbered blank =
      let name = name_text row.name in
      let digits = plain_number_json n in
      ap (λ t. t ++ digits) ((column_says row c is).text ∙ ap (λ m. codes " " ++ (m ++ codes " ")) name_is)
      ∙ append_assoc (codes " ") (name ++ codes " ") digits
      ∙ ap (λ t. codes " " ++ t) (append_assoc name (codes " ") digits)
      ∙ ap (λ b. codes " " ++ (name ++ (b ++ digits))) (sym blank)
      ∙ ap (λ v. codes " " ++ (name ++ v)) (sym (prints.2 table))
      ∙ ap (text_if value table row) (sym prints.1)

  -- and as a member of an object: its name in quotes with a colon, and the digits
  pub member_numbered : before ≡ []
      → member_by value table bytes row ≡ (c.json ++ plain_number_json n) ∷ []
  member_numbered nothing =
      let name = name_text row.name in
      let digits = plain_number_json n in
      let text : c.json ++ digits ≡ name_json row.name ++ (codes ":" ++ digits) =
      ap (λ t. t ++ digits) ((column_says row c is).json ∙ ap (λ m. codes "\"" ++ (m ++ codes "\":")) name_is)
      ∙ append_assoc (codes "\"") (name ++ codes "\":") digits
      ∙ ap (λ t. codes "\"" ++ t) (append_assoc name (codes "\":") digits ∙ sym (append_assoc name (codes "\"") (codes ":" ++ digits)))
      ∙ sym (append_assoc (codes "\"") (name ++ codes "\"") (codes ":" ++ digits)) in
      ap (member_with value table row.name (options_of row)) prints.1
      ∙ ap (λ v. (name_json row.name ++ (codes ":" ++ v)) ∷ []) (prints.2 table ∙ ap (λ b. b ++ digits) nothing)
      ∙ ap (λ t. t ∷ []) (sym text)
