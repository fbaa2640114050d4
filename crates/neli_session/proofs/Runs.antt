-- A run, one message after the other.
use Rattle.std.proofs.Common.{ℕ, ◌≡◌, ◌≢◌, ◌<◌, ◌≤◌, ◌+◌, Bool, true, false, List, [], ◌∷◌, ◌++◌, Option, Some, None, Ok, length, take, drop, refl, sym, ap, subst, ◌∙◌}
use Rattle.std.proofs.Common.{append_assoc, arith}
use Rattle.std.proofs.lemmas.Bool.{eqb-true}
use Rattle.std.proofs.Math.Seq.{take-append-add}
use Rattle.std.proofs.lemmas.List.{length-take-le, take-append-drop}
use Rattle.std.specs.Prelude.{is_some, not, ◌==◌, ◌&&◌, ◌||◌, if◌then◌else◌}
use Rattle.neli_answers.specs.declared.answering.Answering.{Answering}
use Rattle.neli_wire.specs.declared.errors.DeError.{DeError}
use Rattle.neli_reader.specs.Cuts.{Cut, messages_before}
use Rattle.neli_lent.specs.Messages.{Lent, messages_in}
use Rattle.neli_session.specs.declared.loss.Loss.{Loss}
use Rattle.neli_session.specs.declared.request.Request.{Request}
use Rattle.neli_session.specs.declared.request.Stage.{Stage}
use Rattle.neli_session.specs.declared.request.Stage.TheVariants as stage
use Rattle.neli_session.specs.declared.run.Run.{Run}
use Rattle.neli_session.specs.Messages.{IsMessage, IsWhole, messages_of}
use Rattle.neli_session.specs.Readiness.{line_after, line_after_all, ready_at, settled_in}
use Rattle.neli_session.specs.Requests.{answers, ends, first_item, heard, is_awaited, is_over, keeps, untold, with_message}
use Rattle.neli_session.specs.Runs.{AreBefore, AreTaken, HasRun, HearsRun, IsLike, IsRun, heard_run}
use Rattle.neli_session.specs.Sessions.{HaveCome, after, after_all, after_message, gains, after_own, heard_of, is_heard, is_own, is_unasked, kept, share}
use Rattle.neli_session.specs.Sessions.{takes, unasked_of}
use Rattle.neli_session.specs.Waiting.{Item, as_items}
use Rattle.neli_session.proofs.Datagrams.{gains-none, joined-in}
use Rattle.neli_session.proofs.Lines.{itself}
use Rattle.neli_session.proofs.Readiness.{own-settled, settled-same}

pub before-last : (a : Answering) (m : Lent ℕ) (ks : List (Lent ℕ)) (k : Lent ℕ) → AreBefore a m ks → IsLike m k
    → ends a k ≡ false → AreBefore a m (ks ++ k ∷ [])
before-last a m [] k all like none = (like, none, tt)
before-last a m (j ∷ ks) k all like none = (all.0, all.1, before-last a m ks k all.2 like none)

-- a run with a message more
pub run-more : (a : Answering) (m k : Lent ℕ) (ms : List (Lent ℕ)) (ended : Bool) → IsRun a m ms false → IsLike m k
    → ends a k ≡ ended → IsRun a m (ms ++ k ∷ []) ended
run-more a m k ms ended run like at = record {
  front = ms;
  last = k;
  messages = refl;
  before = subst (λ (ks : List (Lent ℕ)). AreBefore a m ks) (sym run.messages)
      (before-last a m run.front run.last run.before run.like run.at_last);
  like = like;
  at_last = at;
}

-- a run is not empty
pub run-some : (a : Answering) (m : Lent ℕ) (ms : List (Lent ℕ)) (ended : Bool) → IsRun a m ms ended → ms ≢ []
run-some a m ms ended run = λ e. none run.front (sym run.messages ∙ e)
  where
    none : (front : List (Lent ℕ)) → front ++ run.last ∷ [] ≢ []
    none [] = λ e. cc
    none (k ∷ front) = λ e. cc

-- ---- the bytes of a run

-- the first message
pub run-first : (a : Answering) (m : Lent ℕ) (bytes : List ℕ) (first : ℕ) (ended : Bool) → 0 < first → first ≤ length bytes
    → IsMessage (take first bytes) m → ends a m ≡ ended → HasRun a m bytes (record { length = first; ended = ended })
run-first a m bytes first ended some within is at = record {
  some = some;
  within = within;
  whole = ap (λ (c : Cut (Lent ℕ)). c.1) is;
  messages = record {
    front = [];
    last = m;
    messages = ap (λ (c : Cut (Lent ℕ)). c.0) is;
    before = tt;
    like = (refl, refl);
    at_last = at;
  };
}

-- and one more
pub run-longer : (a : Answering) (m k : Lent ℕ) (bytes : List ℕ) (run : Run) (more : ℕ) (ended : Bool) → HasRun a m bytes run
    → run.ended ≡ false → run.length + more ≤ length bytes → IsMessage (take more (drop run.length bytes)) k → IsLike m k
    → ends a k ≡ ended → HasRun a m bytes (record { length = run.length + more; ended = ended })
run-longer a m k bytes run more ended before goes within is like at = record {
  some = omega (arith, before.some);
  within = within;
  whole = ap (λ (c : Cut (Lent ℕ)). c.1) both;
  messages = subst (λ (ms : List (Lent ℕ)). IsRun a m ms ended) (sym (ap (λ (c : Cut (Lent ℕ)). c.0) both))
      (run-more a m k (messages_of front) ended
      (subst (λ (b : Bool). IsRun a m (messages_of front) b) goes before.messages) like at);
}
  where
    front : List ℕ
    front = take run.length bytes

    both : messages_in {K = ℕ} (λ n. n) (take (run.length + more) bytes) ≡ (messages_of front ++ k ∷ [], None)
    both =
        let len : length front ≡ run.length = length-take-le run.length bytes before.within in
        ap (λ (xs : List ℕ). messages_in {K = ℕ} (λ n. n) xs)
        (ap (λ (xs : List ℕ). take (run.length + more) xs) (sym (take-append-drop run.length bytes))
        ∙ ap (λ (n : ℕ). take (n + more) (front ++ drop run.length bytes)) (sym len)
        ∙ take-append-add front (drop run.length bytes) more)
        ∙ joined-in front (take more (drop run.length bytes)) before.whole
        ∙ ap (λ (c : Cut (Lent ℕ)). messages_before (messages_of front) c) is

-- ---- a request

and-true : (a b : Bool) → (a && b) ≡ true → a ≡ true
and-true true b e = refl
and-true false b e = cc

and-false : (a : Bool) → (a && false) ≡ false
and-false true = refl
and-false false = refl

or-true : (a : Bool) → (a || true) ≡ true
or-true true = refl
or-true false = refl

not-over : (s : Stage) → is_awaited s ≡ true → is_over s ≡ false
not-over stage.Queued e = refl
not-over stage.Leaving e = refl
not-over stage.Awaited e = refl
not-over stage.Ended e = cc
not-over stage.Silent e = cc

-- a request after a message that does not end its answer
abbrev heard_before : Lent ℕ → Request → Request
heard_before k r = record r { waiting = with_message k r }

-- what waits after one message and more
waits-more : (b : Bool) (xs ys : List Item) (x : Item)
    → (if b then (if b then xs ++ x ∷ [] else xs) ++ ys else (if b then xs ++ x ∷ [] else xs)) ≡ (if b then xs ++ x ∷ ys else xs)
waits-more true xs ys x = append_assoc xs (x ∷ []) ys
waits-more false xs ys x = refl

-- a request that is kept where somebody reads it has something to read after a message
ready-with : (r : Request) (w : List Item) (s : Stage) → (keeps r ≡ true → (l : Option Loss) → is_some (first_item w l) ≡ true)
    → ready_at (kept (Some (record r { waiting = w; stage = s }))) ≡ r.is_open
ready-with r w s some = go r.is_open r.loss (λ a b. some (keeps-with r a b))
  where
    keeps-with : (r : Request) → r.is_open ≡ true → r.loss ≡ None → keeps r ≡ true
    keeps-with r a b = ap (λ (o : Bool). o && not (is_some r.loss)) a ∙ ap (λ (l : Option Loss). not (is_some l)) b

    with : Bool → Option Loss → Request
    with o l = record r { waiting = w; stage = s; is_open = o; loss = l }

    shut : (b : Bool) (l : Option Loss) → ready_at (if b then None else Some (with false l)) ≡ false
    shut true l = refl
    shut false l = refl

    go : (o : Bool) (l : Option Loss) → (o ≡ true → l ≡ None → (k : Option Loss) → is_some (first_item w k) ≡ true)
        → ready_at (kept (Some (with o l))) ≡ o
    go false l some = shut (is_over s && true) l
    go true None some =
        ap (λ (b : Bool). ready_at (if b then None else Some (with true None))) (and-false (is_over s))
        ∙ ap (λ (b : Bool). b || (is_over s || false)) (some refl refl (untold (with true None)))
    go true (Some l) some =
        ap (λ (b : Bool). ready_at (if b then None else Some (with true (Some l)))) (and-false (is_over s))
        ∙ ap (λ (b : Bool). is_some (first_item w (untold (with true (Some l)))) || b) (or-true (is_over s))
        ∙ or-true (is_some (first_item w (untold (with true (Some l)))))

-- something waits after a message at the end
some-last : (xs : List Item) (x : Item) (l : Option Loss) → is_some (first_item (xs ++ x ∷ []) l) ≡ true
some-last [] x l = refl
some-last (y ∷ xs) x l = refl

some-kept : (b : Bool) (xs : List Item) (x : Item) → b ≡ true → (l : Option Loss)
    → is_some (first_item (if b then xs ++ x ∷ [] else xs) l) ≡ true
some-kept true xs x e l = some-last xs x l
some-kept false xs x e l = cc

ready-heard : (k : Lent ℕ) (r : Request) → ready_at (kept (Some (heard k r))) ≡ r.is_open
ready-heard k r = ready-with r (with_message k r) _ (λ e l. some-kept (keeps r) r.waiting (Ok k) e l)

module _ (group : ℕ) (m : Lent ℕ) where
  abbrev port : ℕ
  port = m.0.port

  abbrev n : ℕ
  n = m.0.sequence_number

  own : (k : Lent ℕ) → IsLike m k → is_own port k ≡ true
  own k like = ap (λ (p : ℕ). p == port) like.0 ∙ itself port

  -- a message of the run comes
  one : (k : Lent ℕ) (r : Request) → IsLike m k → answers group r ≡ true
      → after port group k n (Some r) ≡ kept (Some (heard k r))
  one k r like awaits =
      ap (λ (b : Bool). if b then after_message group k n (Some r) else Some r) (own k like)
      ∙ ap (λ (s : ℕ). if s == n then after_own group k (Some r) else Some r) like.1
      ∙ ap (λ (b : Bool). if b then after_own group k (Some r) else Some r) (itself n)
      ∙ ap (λ (b : Bool). if b then kept (Some (heard k r)) else Some r) awaits

  stays : (k : Lent ℕ) (r : Request) → answers group r ≡ true → ends r.answering k ≡ false
      → kept (Some (heard k r)) ≡ Some (heard_before k r)
  stays k r awaits none =
      ap (λ (b : Bool). kept (Some (record r { waiting = with_message k r; stage = if b then stage.Ended else r.stage }))) none
      ∙ ap (λ (b : Bool). if b && not r.is_open then None else Some (heard_before k r))
      (not-over r.stage (and-true (is_awaited r.stage) _ awaits))

  step : (k : Lent ℕ) (r : Request) → IsLike m k → answers group r ≡ true → ends r.answering k ≡ false
      → after port group k n (Some r) ≡ Some (heard_before k r)
  step k r like awaits none = one k r like awaits ∙ stays k r awaits none

  apart : (k : Lent ℕ) (q : ℕ) (o : Option Request) → IsLike m k → (n == q) ≡ false → after port group k q o ≡ o
  apart k q o like e =
      ap (λ (s : ℕ). if is_own port k then (if s == q then after_own group k o else o) else o) like.1
      ∙ ap (λ (b : Bool). if is_own port k then (if b then after_own group k o else o) else o) e
      ∙ either (is_own port k)
    where
      either : (b : Bool) → (if b then o else o) ≡ o
      either true = refl
      either false = refl

  -- the request with its number after a run
  run-own : (front : List (Lent ℕ)) (last : Lent ℕ) (ended : Bool) (r : Request) → answers group r ≡ true
      → AreBefore r.answering m front → IsLike m last → ends r.answering last ≡ ended
      → after_all port group (front ++ last ∷ []) n (Some r) ≡ kept (Some (heard_run (front ++ last ∷ []) ended r))
  run-own [] last ended r awaits before like at =
      one last r like awaits
      ∙ ap (λ (b : Bool). kept (Some (record r { waiting = with_message last r; stage = if b then stage.Ended else r.stage }))) at
  run-own (k ∷ front) last ended r awaits before like at =
      ap (λ (o : Option Request). after_all port group (front ++ last ∷ []) n o) (step k r before.0 awaits before.1)
      ∙ run-own front last ended (heard_before k r) awaits before.2 like at
      ∙ ap (λ (w : List Item). kept (Some (record r { waiting = w; stage = if ended then stage.Ended else r.stage })))
      (waits-more (keeps r) r.waiting (as_items (front ++ last ∷ [])) (Ok k))

  -- and the others
  run-apart : (a : Answering) (front : List (Lent ℕ)) (last : Lent ℕ) (q : ℕ) (o : Option Request) → AreBefore a m front
      → IsLike m last → (n == q) ≡ false → after_all port group (front ++ last ∷ []) q o ≡ o
  run-apart a [] last q o before like e = apart last q o like e
  run-apart a (k ∷ front) last q o before like e =
      ap (λ (p : Option Request). after_all port group (front ++ last ∷ []) q p) (apart k q o before.0 e)
      ∙ run-apart a front last q o before.2 like e

  -- ---- the line

  line-one : (k : Lent ℕ) (r : Request) (f : ℕ → Option Request) (ns : List ℕ) → IsLike m k → f n ≡ Some r
      → answers group r ≡ true → line_after port group k f ns ≡ settled_in r.is_open n ns
  line-one k r f ns like is awaits =
      ap (λ (b : Bool). if b then by k.0.sequence_number (f k.0.sequence_number) else ns) (own k like)
      ∙ ap (λ (s : ℕ). by s (f s)) like.1
      ∙ ap (λ (o : Option Request). by n o) is
      ∙ ap (λ (b : Bool). if b then settled_in (ready_at (if b then kept (Some (heard k r)) else Some r)) n ns else ns) awaits
      ∙ ap (λ (b : Bool). settled_in b n ns) (ready-heard k r)
    where
      by : ℕ → Option Request → List ℕ
      by s o = if takes group o then settled_in (ready_at (after_own group k o)) s ns else ns

  twice : (b : Bool) (ns : List ℕ) → settled_in b n (settled_in b n ns) ≡ settled_in b n ns
  twice b ns = settled-same b n (settled_in b n ns) (own-settled b n ns)

  run-line : (front : List (Lent ℕ)) (last : Lent ℕ) (r : Request) (f : ℕ → Option Request) (ns : List ℕ) → f n ≡ Some r
      → answers group r ≡ true → AreBefore r.answering m front → IsLike m last
      → line_after_all port group (front ++ last ∷ []) f ns ≡ settled_in r.is_open n ns
  run-line [] last r f ns is awaits before like = line-one last r f ns like is awaits
  run-line (k ∷ front) last r f ns is awaits before like =
      run-line front last (heard_before k r) (λ q. after port group k q (f q)) (line_after port group k f ns)
      (ap (λ (o : Option Request). after port group k n o) is ∙ step k r before.0 awaits before.1) awaits before.2 like
      ∙ ap (λ (ms : List ℕ). settled_in r.is_open n ms) (line-one k r f ns before.0 is awaits)
      ∙ twice r.is_open ns

  some-run : (b : Bool) (xs : List Item) (front : List (Lent ℕ)) (last : Lent ℕ) → b ≡ true → (l : Option Loss)
      → is_some (first_item (if b then xs ++ as_items (front ++ last ∷ []) else xs) l) ≡ true
  some-run false xs front last e l = cc
  some-run true (x ∷ xs) front last e l = refl
  some-run true [] [] last e l = refl
  some-run true [] (k ∷ front) last e l = refl

  run-ready : (front : List (Lent ℕ)) (last : Lent ℕ) (ended : Bool) (r : Request)
      → ready_at (kept (Some (heard_run (front ++ last ∷ []) ended r))) ≡ r.is_open
  run-ready front last ended r =
      ready-with r (if keeps r then r.waiting ++ as_items (front ++ last ∷ []) else r.waiting) (if ended then stage.Ended else r.stage)
      (λ e l. some-run (keeps r) r.waiting front last e l)

  -- ---- what no request takes

  asked : (k : Lent ℕ) (r : Request) (f : ℕ → Option Request) → IsLike m k → f n ≡ Some r → answers group r ≡ true
      → is_unasked port group f k ≡ false
  asked k r f like is awaits =
      ap (λ (b : Bool). (group == 0) && not (b && takes group (f k.0.sequence_number))) (own k like)
      ∙ ap (λ (s : ℕ). (group == 0) && not (takes group (f s))) like.1
      ∙ ap (λ (o : Option Request). (group == 0) && not (takes group o)) is
      ∙ ap (λ (b : Bool). (group == 0) && not b) awaits
      ∙ and-false (group == 0)

  run-unasked : (front : List (Lent ℕ)) (last : Lent ℕ) (r : Request) (f : ℕ → Option Request) → f n ≡ Some r
      → answers group r ≡ true → AreBefore r.answering m front → IsLike m last
      → unasked_of port group f (front ++ last ∷ []) ≡ []
  run-unasked [] last r f is awaits before like =
      ap (λ (b : Bool). share b last ++ []) (asked last r f like is awaits)
  run-unasked (k ∷ front) last r f is awaits before like =
      ap (λ (b : Bool). share b k ++ unasked_of port group (λ q. after port group k q (f q)) (front ++ last ∷ []))
      (asked k r f before.0 is awaits)
      ∙ run-unasked front last (heard_before k r) (λ q. after port group k q (f q))
      (ap (λ (o : Option Request). after port group k n o) is ∙ step k r before.0 awaits before.1) awaits before.2 like

  -- ---- multicast

  unheard : (joined : Bool) (k : Lent ℕ) → IsLike m k → (not (group == 0) && joined) ≡ false
      → is_heard port group joined k ≡ false
  unheard joined k like none = ap (λ (b : Bool). not (group == 0) && (not b || joined)) (own k like) ∙ none

  run-unheard : (a : Answering) (joined : Bool) (front : List (Lent ℕ)) (last : Lent ℕ) → AreBefore a m front → IsLike m last
      → (not (group == 0) && joined) ≡ false → heard_of port group joined (front ++ last ∷ []) ≡ []
  run-unheard a joined [] last before like none = ap (λ (b : Bool). share b last ++ []) (unheard joined last like none)
  run-unheard a joined (k ∷ front) last before like none =
      ap (λ (b : Bool). share b k ++ heard_of port group joined (front ++ last ∷ [])) (unheard joined k before.0 none)
      ∙ run-unheard a joined front last before.2 like none

-- ---- a run that a request takes

module _ (group : ℕ) (m : Lent ℕ) (bytes : List ℕ) (run : Run) (es fs : ℕ → Option Request) (ns ms : List ℕ) (ready : Bool) where
  pub taken : HearsRun group m bytes run (es m.0.sequence_number) (fs m.0.sequence_number)
      → ((q : ℕ) → (m.0.sequence_number == q) ≡ false → fs q ≡ es q)
      → ready ≡ ready_at (fs m.0.sequence_number) → ms ≡ settled_in ready m.0.sequence_number ns
      → (0 < run.length) × (run.length ≤ length bytes) × IsWhole (take run.length bytes)
      × AreTaken group m (messages_of (take run.length bytes)) es fs ns ms
  taken hears others is-ready line = go (es m.0.sequence_number) refl hears
    where
      go : (o : Option Request) → es m.0.sequence_number ≡ o → HearsRun group m bytes run o (fs m.0.sequence_number)
          → (0 < run.length) × (run.length ≤ length bytes) × IsWhole (take run.length bytes)
          × AreTaken group m (messages_of (take run.length bytes)) es fs ns ms
      go None is h = absurd h
      go (Some r) is (has, awaits, new) = (
        has.some,
        has.within,
        has.whole,
        subst (λ (ks : List (Lent ℕ)). AreTaken group m ks es fs ns ms)
            (sym has.messages.messages) (record {
              requests = λ q. at (m.0.sequence_number == q) q refl;
              line = line ∙ ap (λ (b : Bool). settled_in b m.0.sequence_number ns)
                  (is-ready ∙ ap (λ (o : Option Request). ready_at o) now ∙ run-ready group m front last run.ended r)
                  ∙ sym (run-line group m front last r es ns is awaits has.messages.before has.messages.like);
              unheard = λ joined none.
                  run-unheard group m r.answering joined front last has.messages.before has.messages.like none;
              unasked = run-unasked group m front last r es is awaits has.messages.before has.messages.like;
            }),
      )
        where
          front : List (Lent ℕ)
          front = has.messages.front

          last : Lent ℕ
          last = has.messages.last

          now : fs m.0.sequence_number ≡ kept (Some (heard_run (has.messages.front ++ has.messages.last ∷ []) run.ended r))
          now = new ∙ ap (λ (ks : List (Lent ℕ)). kept (Some (heard_run ks run.ended r))) has.messages.messages

          at : (b : Bool) (q : ℕ) → (m.0.sequence_number == q) ≡ b
              → fs q ≡ after_all m.0.port group (has.messages.front ++ has.messages.last ∷ []) q (es q)
          at true q e = subst (λ (k : ℕ). fs k
              ≡ after_all m.0.port group (has.messages.front ++ has.messages.last ∷ []) k (es k)) (eqb-true m.0.sequence_number q e)
              (now ∙ sym (ap (λ (o : Option Request). after_all m.0.port group (has.messages.front ++ has.messages.last ∷ []) m.0.sequence_number o) is
              ∙ run-own group m has.messages.front has.messages.last run.ended r awaits has.messages.before has.messages.like has.messages.at_last))
          at false q e = others q e
              ∙ sym (run-apart group m r.answering has.messages.front has.messages.last q (es q) has.messages.before has.messages.like e)

pub heard-there : (group : ℕ) (m : Lent ℕ) (bytes : List ℕ) (run : Run) (o p : Option Request)
    → HearsRun group m bytes run o p → is_some o ≡ true
heard-there group m bytes run None p h = absurd h
heard-there group m bytes run (Some r) p h = refl

-- such a run has come
pub run-come : (port group : ℕ) (joined : Bool) (m : Lent ℕ) (ms : List (Lent ℕ)) (f g : ℕ → Option Request)
    (h h' u u' : Option (List Item)) (line line' : List ℕ) → is_own port m ≡ true → AreTaken group m ms f g line line'
    → ((not (group == 0) && joined) ≡ true → h ≡ None) → h' ≡ h → u' ≡ u
    → HaveCome port group joined ms f g h h' u u' × (line' ≡ line_after_all port group ms f line)
run-come port group joined m ms f g h h' u u' line line' own is none same-h same-u =
    subst (λ (p : ℕ). HaveCome p group joined ms f g h h' u u' × (line' ≡ line_after_all p group ms f line))
    (eqb-true m.0.port port own) (
      record {
        requests = is.requests;
        heard = same-h ∙ quiet (not (group == 0) && joined) refl;
        unasked = same-u ∙ sym (gains-none u) ∙ ap (λ (xs : List Item). gains xs u) (sym is.unasked);
      },
      is.line,
    )
  where
    quiet : (b : Bool) → (not (group == 0) && joined) ≡ b → h ≡ gains (heard_of m.0.port group joined ms) h
    quiet false e = sym (gains-none h) ∙ ap (λ (xs : List Item). gains xs h) (sym (is.unheard joined e))
    quiet true e = none e ∙ ap (λ (o : Option (List Item)). gains (heard_of m.0.port group joined ms) o) (sym (none e))

-- ---- a run more

-- the bytes up to the end of a run
pub front-run : (bytes : List ℕ) (place more : ℕ) → place ≤ length bytes → IsWhole (take place bytes)
    → IsWhole (take more (drop place bytes))
    → messages_in {K = ℕ} (λ n. n) (take (place + more) bytes)
    ≡ (messages_of (take place bytes) ++ messages_of (take more (drop place bytes)), None)
front-run bytes place more within whole rest =
    ap (λ (xs : List ℕ). messages_in {K = ℕ} (λ n. n) xs)
    (ap (λ (xs : List ℕ). take (place + more) xs) (sym (take-append-drop place bytes))
    ∙ ap (λ (n : ℕ). take (n + more) (take place bytes ++ drop place bytes)) (sym (length-take-le place bytes within))
    ∙ take-append-add (take place bytes) (drop place bytes) more)
    ∙ joined-in (take place bytes) (take more (drop place bytes)) whole
    ∙ ap (λ (o : Option DeError). (messages_of (take place bytes) ++ messages_of (take more (drop place bytes)), o)) rest

line-both : (port group : ℕ) (ms ns : List (Lent ℕ)) (f : ℕ → Option Request) (line : List ℕ)
    → line_after_all port group (ms ++ ns) f line
    ≡ line_after_all port group ns (λ q. after_all port group ms q (f q)) (line_after_all port group ms f line)
line-both p group [] ns f line = refl
line-both p group (m ∷ ms) ns f line =
    line-both p group ms ns (λ q. after p group m q (f q)) (line_after p group m f line)

-- the line after the messages so far and a run
pub line-run : (port group : ℕ) (ms ns : List (Lent ℕ)) (f g : ℕ → Option Request) (before line next : List ℕ)
    → ((q : ℕ) → g q ≡ after_all port group ms q (f q)) → line ≡ line_after_all port group ms f before
    → next ≡ line_after_all port group ns g line → next ≡ line_after_all port group (ms ++ ns) f before
line-run port group ms ns f g before line next come so-far step =
    step ∙ ap (λ (h : ℕ → Option Request). line_after_all port group ns h line) (λ i q. come q i)
    ∙ ap (λ (ks : List ℕ). line_after_all port group ns (λ q. after_all port group ms q (f q)) ks) so-far
    ∙ sym (line-both port group ms ns f before)
