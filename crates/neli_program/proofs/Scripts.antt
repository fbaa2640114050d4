-- Scripts, line by line.
use Rattle.std.proofs.Common.{Bor, map, ◌≤◌, get_or, ◌<◌, ◌≡◌, ◌∙◌, ℕ, ◌+◌, Bool, true, false, eqb, List, [], ◌∷◌, ◌++◌, length, drop}
use Rattle.std.proofs.Common.{Option, Some, None, Result, Ok, Err, refl, sym, ap, subst, arith, rules}
use Rattle.std.proofs.Common.{append_assoc, length-append, suc}
use Rattle.std.specs.List.{AllZip, flat_map}
use Rattle.std.specs.Option.{option_to_list}
use Rattle.std.specs.Prelude.{OnOk}
use Rattle.std.proofs.lemmas.Grind.{flat_map-append}
use Rattle.std.proofs.lemmas.List.{append-nil, drop_more, drop_all, get_or-map, length-map}
use Rattle.std.proofs.lemmas.Bool.Decides.{nat_tests}
use Rattle.neli_runs.specs.declared.command.Command.{Command}
use Rattle.neli_runs.specs.laws.Kept.{Handles, Pending}
use Rattle.neli_program.specs.declared.entry.Entry.{Entry}
use Rattle.neli_program.specs.declared.entry.Entry.TheVariants.{Port, Number, Request, Datagram, Fault, Read, Close}
use Rattle.neli_program.specs.Plays.{Follows, HasPlayed, Performs}
use Rattle.neli_program.specs.Replays.{Answers}
use Rattle.neli_program.specs.Script.{AreCommands, IsCommandOf, entries_of, entry_if, entries_from, entry_in, lines_in, port_of}
use Rattle.neli_program.specs.Script.{with_line, words_in}

-- ---- what a router is told

abbrev Told : Type 0
Told = Command ℕ (List ℕ)

all_zip_push : {A B : Type 0} (R : A → B → Type 0) (xs : List A) (ys : List B) (x : A) (y : B) → AllZip R xs ys → R x y
    → AllZip R (xs ++ x ∷ []) (ys ++ y ∷ [])
all_zip_push R [] [] x y all one = (one, tt)
all_zip_push R [] (b ∷ ys) x y all one = absurd all
all_zip_push R (a ∷ xs) [] x y all one = absurd all
all_zip_push R (a ∷ xs) (b ∷ ys) x y all one = (all.0, all_zip_push R xs ys x y all.1 one)

told_push : (entries : List Entry) (cs : List Told) (e : Entry) (told : Option Told) → AreCommands entries cs
    → IsCommandOf e told → AreCommands (entries ++ e ∷ []) (cs ++ option_to_list told)
told_push entries cs e told before one = (
  before.0 ++ told ∷ [],
  all_zip_push IsCommandOf entries before.0 e told before.1 one,
  ap (λ xs. xs ++ option_to_list told) before.2
      ∙ sym (flat_map-append option_to_list before.0 (told ∷ [])
      ∙ ap (λ xs. flat_map option_to_list before.0 ++ xs) (append-nil (option_to_list told))),
)

-- ---- lines

-- what these lines say stands after what was said before
abbrev pub after : List Entry → Result (List Entry) ℕ → Result (List Entry) ℕ
after said (Ok entries) = Ok (said ++ entries)
after said (Err k) = Err k

abbrev said_on : Bool → List ℕ → Option Entry
said_on first line = entry_if first (entry_in (words_in line))

read_empty : (first : Bool) (k : ℕ) (line : List ℕ) (lines : List (List ℕ)) → length line ≡ 0
    → entries_from first k (line ∷ lines) ≡ entries_from first (k + 1) lines
read_empty first k [] lines none = refl
read_empty first k (b ∷ line) lines none = absurd (omega (arith, none))

after_more : (said : List Entry) (k : ℕ) (e : Entry) (later : Result (List Entry) ℕ)
    → after said (with_line k (Some e) later) ≡ after (said ++ e ∷ []) later
after_more said k e (Ok entries) = ap Ok (sym (append_assoc said (e ∷ []) entries))
after_more said k e (Err j) = refl

line_is : (first : Bool) (k : ℕ) (line : List ℕ) (lines : List (List ℕ)) → eqb (length line) 0 ≡ false
    → entries_from first k (line ∷ lines) ≡ with_line k (said_on first line) (entries_from false (k + 1) lines)
line_is first k [] lines some = absurd cc
line_is first k (b ∷ line) lines some = refl

read_more : (said : List Entry) (first : Bool) (k : ℕ) (line : List ℕ) (lines : List (List ℕ)) (e : Entry)
    → eqb (length line) 0 ≡ false → entry_if first (entry_in (words_in line)) ≡ Some e
    → after said (entries_from first k (line ∷ lines)) ≡ after (said ++ e ∷ []) (entries_from false (k + 1) lines)
read_more said first k line lines e some is =
    ap (after said) (line_is first k line lines some ∙ ap (λ o. with_line k o (entries_from false (k + 1) lines)) is)
    ∙ after_more said k e (entries_from false (k + 1) lines)

read_bad : (said : List Entry) (first : Bool) (k : ℕ) (line : List ℕ) (lines : List (List ℕ))
    → eqb (length line) 0 ≡ false → entry_if first (entry_in (words_in line)) ≡ None
    → after said (entries_from first k (line ∷ lines)) ≡ Err k
read_bad said first k line lines some is =
    ap (after said) (line_is first k line lines some ∙ ap (λ o. with_line k o (entries_from false (k + 1) lines)) is)

-- ---- one line more

-- so many lines of the script were played: what they said, what the router was told by it, and what is left to read
abbrev pub IsPlayed : List ℕ → Bool → ℕ → ℕ → ℕ → Pending → Handles → ℕ → List ℕ → Type 0
IsPlayed script first count port next pending handles sent text =
    (said : List Entry) × (commands : List Told)
    × (entries_of script ≡ after said (entries_from first (count + 1) (drop count (lines_in script))))
    × (first ≡ eqb (length said) 0) × AreCommands said commands
    × HasPlayed (port_of said) port next pending handles sent text commands

-- the next line of a script
abbrev pub IsNext : List ℕ → ℕ → List ℕ → Type 0
IsNext script count line = (count < length (lines_in script)) × (line ≡ get_or (lines_in script) count line)

line_left : (script : List ℕ) (count : ℕ) (line : List ℕ) → IsNext script count line
    → drop count (lines_in script) ≡ line ∷ drop (count + 1) (lines_in script)
line_left script count line at =
    drop_more (lines_in script) count line at.0
    ∙ ap (λ l. l ∷ drop (count + 1) (lines_in script)) (sym at.1)

after_none : (later : Result (List Entry) ℕ) → later ≡ after [] later
after_none (Ok entries) = refl
after_none (Err k) = refl

pub played_none : (script : List ℕ) (port next : ℕ) (pending : Pending) (handles : Handles) (sent : ℕ) (text : List ℕ) → HasPlayed 0 port next pending handles sent text []
    → IsPlayed script true 0 port next pending handles sent text
played_none script port next pending handles sent text begun =
    ([], [], after_none (entries_from true 1 (lines_in script)), refl, ([], tt, refl), begun)

pub played_empty : (script : List ℕ) (first : Bool) (count port next : ℕ) (pending : Pending) (handles : Handles) (sent : ℕ) (text line : List ℕ)
    → IsPlayed script first count port next pending handles sent text → IsNext script count line → length line ≡ 0
    → IsPlayed script first (count + 1) port next pending handles sent text
played_empty script first count port next pending handles sent text line (said, commands, is, begins, are, has) at none =
    let left = line_left script count line at in (
      said,
      commands,
      is ∙ ap (after said) (ap (entries_from first (count + 1)) left
          ∙ read_empty first (count + 1) line (drop (count + 1) (lines_in script)) none),
      begins,
      are,
      has,
    )

pub played_bad : (script : List ℕ) (first : Bool) (count port next : ℕ) (pending : Pending) (handles : Handles) (sent : ℕ) (text line : List ℕ)
    → IsPlayed script first count port next pending handles sent text → IsNext script count line → eqb (length line) 0 ≡ false
    → entry_if first (entry_in (words_in line)) ≡ None → entries_of script ≡ Err (count + 1)
played_bad script first count port next pending handles sent text line (said, commands, is, begins, are, has) at some none =
    let left = line_left script count line at in
    is ∙ (ap (λ ls. after said (entries_from first (count + 1) ls)) left
    ∙ read_bad said first (count + 1) line (drop (count + 1) (lines_in script)) some none)

said_more : (script : List ℕ) (said : List Entry) (first : Bool) (count : ℕ) (line : List ℕ) (e : Entry)
    → entries_of script ≡ after said (entries_from first (count + 1) (drop count (lines_in script)))
    → IsNext script count line → eqb (length line) 0 ≡ false → entry_if first (entry_in (words_in line)) ≡ Some e
    → entries_of script
    ≡ after (said ++ e ∷ []) (entries_from false (count + 1 + 1) (drop (count + 1) (lines_in script)))
said_more script said first count line e is at some says =
    let left = line_left script count line at in
    is ∙ (ap (λ ls. after said (entries_from first (count + 1) ls)) left
    ∙ read_more said first (count + 1) line (drop (count + 1) (lines_in script)) e some says)

-- only the first line sets a port
first_port : (first : Bool) (n : ℕ) (said : Option Entry) → entry_if first said ≡ Some (Port n) → first ≡ true
first_port true n said is = refl
first_port false n None is = absurd cc
first_port false n (Some (Port m)) is = absurd cc
first_port false n (Some (Number m)) is = absurd cc
first_port false n (Some (Request t f b)) is = absurd cc
first_port false n (Some (Datagram m b)) is = absurd cc
first_port false n (Some (Fault k)) is = absurd cc
first_port false n (Some (Read h)) is = absurd cc
first_port false n (Some (Close h)) is = absurd cc

no_length : (n : ℕ) → true ≡ eqb (suc n) 0 → ⊥
no_length n none = search (rules, nat_tests, none)

nothing_said : (said : List Entry) → true ≡ eqb (length said) 0 → said ≡ []
nothing_said [] none = refl
nothing_said (e ∷ said) none = absurd (no_length (length said) none)

not_none : (n m : ℕ) → n ≡ m + 1 → eqb n 0 ≡ false
not_none n m is = search (rules, nat_tests)

something_said : (said : List Entry) (e : Entry) → false ≡ eqb (length (said ++ e ∷ [])) 0
something_said said e = sym (not_none (length (said ++ e ∷ [])) (length said) (length-append said (e ∷ [])))

-- ---- a port that is not set by this line stays

abbrev IsNoPort : Entry → Type 0
IsNoPort e = (n : ℕ) → e ≡ Port n → ⊥

same_port : (said : List Entry) (e : Entry) → IsNoPort e → port_of (said ++ e ∷ []) ≡ port_of said
same_port [] (Port n) other = absurd (other n refl)
same_port [] (Number n) other = refl
same_port [] (Request t f b) other = refl
same_port [] (Datagram m b) other = refl
same_port [] (Fault k) other = refl
same_port [] (Read h) other = refl
same_port [] (Close h) other = refl
same_port (Port n ∷ said) e other = refl
same_port (Number n ∷ said) e other = refl
same_port (Request t f b ∷ said) e other = refl
same_port (Datagram m b ∷ said) e other = refl
same_port (Fault k ∷ said) e other = refl
same_port (Read h ∷ said) e other = refl
same_port (Close h ∷ said) e other = refl

-- another line than a port
abbrev IsFollowed : Entry → ℕ → ℕ → Pending → Handles → ℕ → List ℕ → ℕ → ℕ → Pending → Handles → ℕ → List ℕ → Type 0
IsFollowed e port next pending handles sent text port' next' pending' handles' sent' text' =
    (pid : ℕ) (commands : List Told) → HasPlayed pid port next pending handles sent text commands
    → (told : Option Told) × IsCommandOf e told × HasPlayed pid port' next' pending' handles' sent' text' (commands ++ option_to_list told)

played_other : (script : List ℕ) (first : Bool) (count port next : ℕ) (pending : Pending) (handles : Handles) (sent : ℕ) (text line : List ℕ) (e : Entry)
    (port' next' : ℕ) (pending' : Pending) (handles' : Handles) (sent' : ℕ) (text' : List ℕ) → IsPlayed script first count port next pending handles sent text → IsNext script count line
    → eqb (length line) 0 ≡ false → entry_if first (entry_in (words_in line)) ≡ Some e → IsNoPort e
    → IsFollowed e port next pending handles sent text port' next' pending' handles' sent' text' → IsPlayed script false (count + 1) port' next' pending' handles' sent' text'
played_other script first count port next pending handles sent text line e port' next' pending' handles' sent' text' (said, commands, is, begins, are, has) at some says
    other follows =
    let done = follows (port_of said) commands has in (
      said ++ e ∷ [],
      commands ++ option_to_list done.0,
      said_more script said first count line e is at some says,
      something_said said e,
      told_push said commands e done.0 are done.1,
      subst (λ p. HasPlayed p port' next' pending' handles' sent' text' (commands ++ option_to_list done.0)) (sym (same_port said e other)) done.2,
    )

played_port : (script : List ℕ) (first : Bool) (count port next : ℕ) (pending : Pending) (handles : Handles) (sent : ℕ) (text line : List ℕ) (n : ℕ)
    (port' next' : ℕ) (pending' : Pending) (handles' : Handles) (sent' : ℕ) (text' : List ℕ) → IsPlayed script first count port next pending handles sent text → IsNext script count line
    → eqb (length line) 0 ≡ false → entry_if first (entry_in (words_in line)) ≡ Some (Port n)
    → HasPlayed n port' next' pending' handles' sent' text' [] → IsPlayed script false (count + 1) port' next' pending' handles' sent' text'
played_port script first count port next pending handles sent text line n port' next' pending' handles' sent' text' (said, commands, is, begins, are, has) at some says
    begun =
    let nothing : said ≡ [] = nothing_said said
    (sym (first_port first n (entry_in (words_in line)) says) ∙ begins) in (
      Port n ∷ [],
      [],
      said_more script [] first count line (Port n)
          (subst (λ (s : List Entry). entries_of script
          ≡ after s (entries_from first (count + 1) (drop count (lines_in script)))) nothing is) at some says,
      refl,
      (None ∷ [], (refl, tt), refl),
      begun,
    )

pub played_line : (script : List ℕ) (first : Bool) (count port next : ℕ) (pending : Pending) (handles : Handles) (sent : ℕ) (text line : List ℕ) (e : Entry)
    (port' next' : ℕ) (pending' : Pending) (handles' : Handles) (sent' : ℕ) (text' : List ℕ) → IsPlayed script first count port next pending handles sent text → IsNext script count line
    → eqb (length line) 0 ≡ false → entry_if first (entry_in (words_in line)) ≡ Some e
    → Follows e port next pending handles sent text port' next' pending' handles' sent' text' → IsPlayed script false (count + 1) port' next' pending' handles' sent' text'
played_line script first count port next pending handles sent text line (Port n) port' next' pending' handles' sent' text' so
    at some says follows =
    played_port script first count port next pending handles sent text line n port' next' pending' handles' sent' text'
    so at some says follows
played_line script first count port next pending handles sent text line (Number n) port' next' pending' handles' sent' text' so
    at some says follows =
    played_other script first count port next pending handles sent text line (Number n) port' next' pending' handles' sent' text'
    so at some says (λ m e. cc) follows
played_line script first count port next pending handles sent text line (Request t f b) port' next' pending' handles' sent' text' so
    at some says follows =
    played_other script first count port next pending handles sent text line (Request t f b) port' next' pending' handles' sent' text'
    so at some says (λ m e. cc) follows
played_line script first count port next pending handles sent text line (Datagram m b) port' next' pending' handles' sent' text' so
    at some says follows =
    played_other script first count port next pending handles sent text line (Datagram m b) port' next' pending' handles' sent' text'
    so at some says (λ m e. cc) follows
played_line script first count port next pending handles sent text line (Fault k) port' next' pending' handles' sent' text' so
    at some says follows =
    played_other script first count port next pending handles sent text line (Fault k) port' next' pending' handles' sent' text'
    so at some says (λ m e. cc) follows
played_line script first count port next pending handles sent text line (Read h) port' next' pending' handles' sent' text' so
    at some says follows =
    played_other script first count port next pending handles sent text line (Read h) port' next' pending' handles' sent' text'
    so at some says (λ m e. cc) follows
played_line script first count port next pending handles sent text line (Close h) port' next' pending' handles' sent' text' so
    at some says follows =
    played_other script first count port next pending handles sent text line (Close h) port' next' pending' handles' sent' text'
    so at some says (λ m e. cc) follows

-- all lines were played
pub played_all : (script : List ℕ) (first : Bool) (count port next : ℕ) (pending : Pending) (handles : Handles)
    (sent : ℕ) (text : List ℕ) → IsPlayed script first count port next pending handles sent text
    → length (lines_in script) ≤ count → Answers script text
played_all script first count port next pending handles sent text (said, commands, is, begins, are, has) all =
    let no_more : drop count (lines_in script) ≡ [] = drop_all count (lines_in script) all in
    let says : entries_of script ≡ Ok said =
    is ∙ ap (λ ls. after said (entries_from first (count + 1) ls)) no_more ∙ ap Ok (append-nil said) in
    (port_of said, commands, has.0, (said, says, refl, are), (has.1.sent, has.1.answered), has.2)

-- the line of a script at a place, among its lines as they are lent
pub next_of : (script : List ℕ) (lines : List (Bor (List ℕ))) (i : ℕ) (d : Bor (List ℕ))
    → map (λ (line : Bor (List ℕ)). line.now) lines ≡ lines_in script → i < length lines
    → IsNext script i (get_or lines i d).now
next_of script lines i d are within =
    let line = (get_or lines i d).now in (
      omega (arith, within, ap length are, length-map lines (λ (l : Bor (List ℕ)). l.now)),
      sym (get_or-map (λ (l : Bor (List ℕ)). l.now) lines i d line within)
          ∙ ap (λ (ls : List (List ℕ)). get_or ls i line) are,
    )

pub none_next : (script : List ℕ) (lines : List (Bor (List ℕ))) (i : ℕ)
    → map (λ (line : Bor (List ℕ)). line.now) lines ≡ lines_in script → length lines ≤ i
    → length (lines_in script) ≤ i
none_next script lines i are none =
    omega (arith, none, ap length are, length-map lines (λ (l : Bor (List ℕ)). l.now))

-- ---- a command that a line tells

on_ok : {A E : Type 0} (r : Result A E) (P Q : Type 0) → (P → Q) → OnOk r P → OnOk r Q
on_ok (Ok v) P Q f p = f p
on_ok (Err e) P Q f p = p

module _ (port next : ℕ) (pending : Pending) (handles : Handles) (sent : ℕ) (text : List ℕ) (port' next' : ℕ)
    (pending' : Pending) (handles' : Handles) (sent' : ℕ) (text' : List ℕ) where
  followed : (e : Entry) (command : Told) → IsCommandOf e (Some command)
      → Performs command port next pending handles sent text port' next' pending' handles' sent' text'
      → Follows e port next pending handles sent text port' next' pending' handles' sent' text'
  followed (Port n) command told performs = absurd cc
  followed (Number n) command told performs = λ pid commands played. (Some command, told, performs pid commands played)
  followed (Request t f b) command told performs = λ pid commands played.
      (Some command, told, performs pid commands played)
  followed (Datagram m b) command told performs = λ pid commands played.
      (Some command, told, performs pid commands played)
  followed (Fault k) command told performs = λ pid commands played. (Some command, told, performs pid commands played)
  followed (Read h) command told performs = λ pid commands played. (Some command, told, performs pid commands played)
  followed (Close h) command told performs = λ pid commands played. (Some command, told, performs pid commands played)

  pub all_followed : {A E : Type 0} (r : Result A E) (e : Entry) (told : Option Told) (command : Told) → IsCommandOf e told
      → told ≡ Some command
      → OnOk r (Performs command port next pending handles sent text port' next' pending' handles' sent' text')
      → OnOk r (Follows e port next pending handles sent text port' next' pending' handles' sent' text')
  all_followed r e told command says is performs =
      on_ok r _ _ (followed e command (subst (IsCommandOf e) is says)) performs
