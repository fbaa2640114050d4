-- Requests and the datagrams that arrived for them.
use Rattle.std.proofs.Common.{◌≡◌, ◌<◌, ◌≤◌, ℕ, zero, suc, ◌++◌, All, Bool, true, false, ◌&&◌, ◌||◌}
use Rattle.std.proofs.Common.{List, [], ◌∷◌, None, Result, refl, sym, ap, subst, ◌∙◌, inl, inr, arith}
use Rattle.std.specs.Prelude.{◌==◌, ◌⊎◌, flat_map}
use Rattle.std.proofs.lemmas.Bool.{eq-eqb}
use Rattle.std.proofs.lemmas.Bool.Decides.{leb_tells, nat_tests}
use Rattle.std.proofs.lemmas.List.{append-nil}
use Rattle.std.proofs.lemmas.List.Concat.{flat_map-append}
use Rattle.std.proofs.lemmas.List.Elements.{All-cons, All-head, All-nil, All-tail}
use Rattle.neli_wire.specs.declared.errors.DeError.{DeError}
use Rattle.neli_reader.specs.Agreement.{untyped_layout}
use Rattle.neli_reader.specs.Cuts.{Cut, cut_of}
use Rattle.neli_deliveries.specs.Deliveries.{Untyped}
use Rattle.neli_runs.specs.declared.command.Command.{Command}
use Rattle.neli_runs.specs.declared.command.Command.TheVariants as command
use Rattle.neli_runs.specs.History.{History, any_upto, is_closed, is_handle_open, is_open, number_of, requests_sent}
use Rattle.neli_runs.specs.Rule.{needs_ack}
use Rattle.neli_kernel.specs.Delivered.{IsFor}
use Rattle.neli_kernel.specs.declared.request.Request.{Request}
use Rattle.neli_kernel_laws.specs.Complete.{IsComplete}
use Rattle.neli_kernel_laws.specs.Exchanges.{AllOthersAnswer, Exchange, IsServed, OthersAnswer, ReadsGive}
use Rattle.neli_kernel_laws.specs.Exchanges.{datagram_with, datagrams_with, history_with, own_number, taken_with}
use Rattle.neli_kernel_laws.specs.Served.{AllAnswer, Answers, brought, came, numbered}
use Rattle.neli_kernel_laws.proofs.Came.{Keeps, is-given, keeps-more, open-by, or-later, read-before, start-keeps}
use Rattle.neli_kernel_laws.proofs.Complete.{All-first, All-later, all-answered, messages_cut, several_numbered}

-- ---- an open number

or_first : (a b : Bool) → a ≡ true → (a || b) ≡ true
or_first true b is = refl
or_first false b is = cc

or_second : (a b : Bool) → b ≡ true → (a || b) ≡ true
or_second true b is = refl
or_second false b is = is

and_both : (a b : Bool) → a ≡ true → b ≡ true → (a && b) ≡ true
and_both true b one two = two
and_both false b one two = cc

last-or-before : (j n : ℕ) → suc j ≤ suc n → (j ≡ n) ⊎ (suc j ≤ n)
last-or-before j n le = grind (arith, nat_tests, leb_tells (suc j) n)

any-known : (n j : ℕ) (p : ℕ → Bool) → suc j ≤ n → p (suc j) ≡ true → any_upto n p ≡ true
any-known zero j p le is = absurd (omega arith)
any-known (suc n) j p le is = by (last-or-before j n le) (λ before. any-known n j p before is)
  where
    by : (j ≡ n) ⊎ (suc j ≤ n) → (suc j ≤ n → any_upto n p ≡ true) → (p (suc n) || any_upto n p) ≡ true
    by (inl same) known = or_first (p (suc n)) (any_upto n p) (ap (λ (k : ℕ). p (suc k)) (sym same) ∙ is)
    by (inr before) known = or_second (p (suc n)) (any_upto n p) (known before)

-- ---- the messages that arrived, by datagrams

module _ {ST SP : Type 0} (number : ℕ) where
  brought-is : (c : Command ST SP) → brought number c ≡ flat_map (numbered number) (taken_with number c)
  brought-is (command.Datagram b []) = by (numbered number b.items) refl
    where
      by : (us : List Untyped) → numbered number b.items ≡ us
          → us ≡ flat_map (numbered number) (datagram_with b.items us)
      by [] is = refl
      by (u ∷ us) is = sym is ∙ sym (append-nil (numbered number b.items))
  brought-is (command.Datagram b (g ∷ groups)) = refl
  brought-is (command.SetNextSeq n) = refl
  brought-is (command.Send t f p) = refl
  brought-is (command.Fault e) = refl
  brought-is (command.Read k) = refl
  brought-is (command.Close k) = refl

module _ {ST SP RT RP : Type 0} (number : ℕ) where
  came-is : (later : History ST SP RT RP) → came number later ≡ flat_map (numbered number) (datagrams_with number later)
  came-is [] = refl
  came-is (e ∷ later) =
      ap (λ (us : List Untyped). us ++ brought number e.0) (came-is later)
      ∙ ap (λ (us : List Untyped). flat_map (numbered number) (datagrams_with number later) ++ us)
      (brought-is number e.0)
      ∙ sym (flat_map-append (numbered number) (datagrams_with number later) (taken_with number e.0))

-- ---- datagrams of a request's own answer it

-- the datagram has no fault, and each of its messages this number and this port
abbrev Own : ℕ → ℕ → List ℕ → Type 0
Own port number d = ((cut_of untyped_layout d).1 ≡ None) × All (IsFor number port) (messages_cut d)

module _ {ST SP RT RP : Type 0} (port number : ℕ) where
  one-answers : (c : Command ST SP) (h : History ST SP RT RP) → is_open number h ≡ true → OthersAnswer number port h c
      → All (Own port number) (taken_with number c) → Answers port h c
  one-answers (command.Datagram b []) h opened others own = by (numbered number b.items) refl own
    where
      by : (us : List Untyped) → numbered number b.items ≡ us → All (Own port number) (datagram_with b.items us)
          → Answers port h (command.Datagram b [])
      by [] none all = others none
      by (u ∷ us) some all =
          let is : Own port number b.items = All-head (Own port number) b.items [] all in
          (is.0, λ none. all-answered number port (λ (q : ℕ). is_open q h) opened (messages_cut b.items) is.1)
  one-answers (command.Datagram b (g ∷ groups)) h opened others own = others refl
  one-answers (command.SetNextSeq n) h opened others own = tt
  one-answers (command.Send t f p) h opened others own = tt
  one-answers (command.Fault e) h opened others own = absurd others
  one-answers (command.Read k) h opened others own = tt
  one-answers (command.Close k) h opened others own = tt

  number-open : (j : ℕ) (needs : Bool) (h : History ST SP RT RP) → Keeps port j number needs h
      → is_closed (suc j) h ≡ false → is_open number h ≡ true
  number-open j needs h k closed =
      let live : is_handle_open (suc j) h ≡ true = open-by _ _ (is-given j (requests_sent h) k.given) closed in
      let same : (number_of (suc j) h == number) ≡ true = eq-eqb _ _ k.number_is in
      any-known (requests_sent h) j (λ (i : ℕ). is_handle_open i h && (number_of i h == number)) k.given
      (and_both _ _ live same)

  keeps-all : (j : ℕ) (needs : Bool) (start later : History ST SP RT RP) → Keeps port j number needs start
      → Keeps port j number needs (later ++ start)
  keeps-all j needs start [] k = k
  keeps-all j needs start (e ∷ later) k = keeps-more port j number needs e (later ++ start)
      (keeps-all j needs start later k)

  all-answer : (j : ℕ) (needs : Bool) (start later : History ST SP RT RP) → Keeps port j number needs start
      → is_closed (suc j) (later ++ start) ≡ false → AllOthersAnswer number port later start
      → All (Own port number) (datagrams_with number later) → AllAnswer port later start
  all-answer j needs start [] k closed others own = tt
  all-answer j needs start (e ∷ later) k closed others own =
      let still : is_closed (suc j) (later ++ start) ≡ false = or-later _ (is_closed (suc j) (later ++ start)) closed in
      let before = all-answer j needs start later k still others.1
      (All-first (Own port number) (datagrams_with number later) (taken_with number e.0) own) in
      let opened : is_open number (later ++ start) ≡ true =
      number-open j needs (later ++ start) (keeps-all j needs start later k) still in (
        one-answers e.0 (later ++ start) opened others.0
            (All-later (Own port number) (datagrams_with number later) (taken_with number e.0) own),
        before,
      )

own-each : (port number : ℕ) (ds : List (List ℕ)) → All (λ d. (cut_of untyped_layout d).1 ≡ None) ds
    → All (λ d. All (IsFor number port) (messages_cut d)) ds → All (Own port number) ds
own-each port number [] none all = All-nil (Own port number)
own-each port number (d ∷ ds) none all =
    All-cons (Own port number) d ds (
      All-head (λ d. (cut_of untyped_layout d).1 ≡ None) d ds none,
      All-head (λ d. All (IsFor number port) (messages_cut d)) d ds all,
    )
    (own-each port number ds (All-tail (λ d. (cut_of untyped_layout d).1 ≡ None) d ds none)
    (All-tail (λ d. All (IsFor number port) (messages_cut d)) d ds all))

-- ---- reads of such a request

abbrev IsUnbroken : List ℕ → Type 0
IsUnbroken d = (cut_of untyped_layout d).1 ≡ None

module _ {ST SP K P V : Type 0} (type_of : ℕ → K) (number_in : K → ℕ) (view : P → V) (size : P → ℕ) (read : List ℕ
    → Result V DeError) (back : (n : ℕ) → n < 65536 → number_in (type_of n) ≡ n) where
  -- a whole answer arrived, and perhaps more after it
  pub served-before : (x : Exchange ST SP K P) (asked : Request) (datagrams : List (List ℕ)) (us more : List Untyped)
      → flat_map messages_cut datagrams ≡ us ++ more → All (λ d. (cut_of untyped_layout d).1 ≡ None) datagrams
      → All (IsFor asked.header.sequence_number asked.port) (us ++ more) → IsComplete (needs_ack x.flags) us
      → IsServed x asked datagrams
      → ReadsGive type_of number_in view size read asked.port us x
  served-before x asked datagrams us more cut none all complete served o is =
      let number : ℕ = own_number x in
      let port : ℕ = asked.port in
      let mine : All (IsFor number port) (us ++ more) =
      subst (λ (n : ℕ). All (IsFor n port) (us ++ more)) served.number_is all in
      let each = several_numbered number port datagrams (us ++ more) cut mine in
      let own : All (Own port number) (datagrams_with number x.later) =
      subst (All (Own port number)) (sym served.own) (own-each port number datagrams none each.1) in
      let start-known = start-keeps port x.message_type x.flags x.payload x.sent x.before in
      let answers : AllAnswer port x.later (history_with x) =
      all-answer port number (requests_sent x.before) (needs_ack x.flags)
      (history_with x) x.later start-known served.stays_open served.others own in
      let brings : came number x.later ≡ us ++ more =
      came-is number x.later ∙ ap (flat_map (numbered number)) served.own ∙ each.0 in
      read-before type_of number_in view size read back port x.message_type x.flags x.payload x.sent
      x.before x.later o us more served.stays_open answers brings complete is

  pub served-in-turn : (x : Exchange ST SP K P) (asked : Request) (datagrams : List (List ℕ)) (us : List Untyped)
      → flat_map messages_cut datagrams ≡ us → All (λ d. (cut_of untyped_layout d).1 ≡ None) datagrams
      → All (IsFor asked.header.sequence_number asked.port) us → IsComplete (needs_ack x.flags) us
      → IsServed x asked datagrams
      → ReadsGive type_of number_in view size read asked.port us x
  served-in-turn x asked datagrams us cut none all complete served =
      served-before x asked datagrams us [] (cut ∙ sym (append-nil us)) none
      (subst (All (IsFor asked.header.sequence_number asked.port)) (sym (append-nil us)) all) complete served

  -- of one datagram
  pub datagram-in-turn : (x : Exchange ST SP K P) (asked : Request) (bytes : List ℕ) (us : List Untyped) (needs : Bool)
      → needs_ack x.flags ≡ needs → cut_of untyped_layout bytes ≡ (us, None)
      → All (IsFor asked.header.sequence_number asked.port) us → IsComplete needs us → IsServed x asked (bytes ∷ [])
      → ReadsGive type_of number_in view size read asked.port us x
  datagram-in-turn x asked bytes us needs wants cut all complete =
      let whole : All IsUnbroken (bytes ∷ []) = All-cons IsUnbroken bytes [] (ap (λ (c : Cut Untyped). c.1) cut)
      (All-nil IsUnbroken) in
      served-in-turn x asked (bytes ∷ []) us (append-nil (messages_cut bytes)
      ∙ ap (λ (c : Cut Untyped). c.0) cut) whole all (subst (λ (b : Bool). IsComplete b us) (sym wants) complete)

  -- of two
  pub datagrams-in-turn : (x : Exchange ST SP K P) (asked : Request) (one two : List ℕ) (us vs : List Untyped)
      (needs : Bool)
      → needs_ack x.flags ≡ needs → cut_of untyped_layout one ≡ (us, None) → cut_of untyped_layout two ≡ (vs, None)
      → All (IsFor asked.header.sequence_number asked.port) (us ++ vs) → IsComplete needs (us ++ vs)
      → IsServed x asked (one ∷ two ∷ [])
      → ReadsGive type_of number_in view size read asked.port (us ++ vs) x
  datagrams-in-turn x asked one two us vs needs wants first second all complete =
      let last : All IsUnbroken (two ∷ []) = All-cons IsUnbroken two [] (ap (λ (c : Cut Untyped). c.1) second)
      (All-nil IsUnbroken) in
      let whole : All IsUnbroken (one ∷ two ∷ []) = All-cons IsUnbroken one (two ∷ [])
      (ap (λ (c : Cut Untyped). c.1) first) last in
      let tail : messages_cut two ++ [] ≡ vs = append-nil (messages_cut two) ∙ ap (λ (c : Cut Untyped). c.0) second in
      let cut : messages_cut one ++ (messages_cut two ++ []) ≡ us ++ vs =
      ap (λ (c : Cut Untyped). c.0 ++ (messages_cut two ++ [])) first ∙ ap (λ (ms : List Untyped). us ++ ms) tail in
      served-in-turn x asked (one ∷ two ∷ []) (us ++ vs) cut whole all
      (subst (λ (b : Bool). IsComplete b (us ++ vs)) (sym wants) complete)

-- a message by itself
pub one-for : (number port : ℕ) (u : Untyped) → IsFor number port u → All (IsFor number port) (u ∷ [])
one-for number port u is = All-cons (IsFor number port) u [] is (All-nil (IsFor number port))
