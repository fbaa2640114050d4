-- What comes for a request that is answered by nothing, until the link is seen empty.
use Rattle.std.proofs.Common.{ℕ, ◌≡◌, Bool, true, false, ◌&&◌, ◌||◌, All, List, [], ◌∷◌, ◌++◌}
use Rattle.std.proofs.Common.{None, Ok, refl, sym, subst, ap, ◌∙◌, inl, inr}
use Rattle.std.specs.Prelude.{◌==◌, ◌⊎◌}
use Rattle.std.proofs.lemmas.List.{map-append}
use Rattle.std.proofs.lemmas.List.Elements.{All-cons, All-head, All-nil, All-tail}
use Rattle.neli_answers.specs.declared.answering.Answering.{Answering}
use Rattle.neli_consts_system.specs.declared.socket.NlFamily.{NlFamily}
use Rattle.neli_lent.specs.Messages.{Lent, messages_in}
use Rattle.neli_session.specs.declared.change.Change.TheVariants as change
use Rattle.neli_session.specs.declared.request.Stage.{Stage}
use Rattle.neli_session.specs.declared.request.Stage.TheVariants as stage
use Rattle.neli_session.specs.Happenings.{Came, Changed, Happening, Read, answer, answer_since, stage_by}
use Rattle.neli_session.specs.Histories.{Ask, Call, Close, CloseMulticast, Fault, Moment, NotSent, Outgoing}
use Rattle.neli_session.specs.Histories.{PassAnswer, PassMulticast, PassUnasked, Quiet, Receive, Send, Sent}
use Rattle.neli_session.specs.Histories.{happenings, happens, if_so}
use Rattle.neli_session.specs.Mails.{answers_at_once}
use Rattle.neli_session.specs.Messages.{messages_of}
use Rattle.neli_session.specs.Requests.{is_awaited, is_over}
use Rattle.neli_session.specs.Waiting.{Item, as_items}
use Rattle.neli_session_laws.specs.Served.{IsFine, brought, goes_out, sent_after}
use Rattle.neli_session_laws.specs.Silent.{ComesOnceOutUntilEmpty, ComesUntilEmpty, is_empty_by}
use Rattle.neli_session_laws.proofs.Coming.{IsBefore, IsDatagram, IsPassed, came-since, kind, no-truth, not-over, out}
use Rattle.neli_session_laws.proofs.Coming.{received, stage-before, stage-came, stage_of}
use Rattle.neli_session_laws.proofs.Coming.{until-before, waits}

All-first : (P : Lent ℕ → Type 0) (xs ys : List (Lent ℕ)) → All P (xs ++ ys) → All P xs
All-first P [] ys h = All-nil P
All-first P (x ∷ xs) ys h = All-cons P x xs (All-head P x (xs ++ ys) h) (All-first P xs ys (All-tail P x (xs ++ ys) h))

All-later : (P : Lent ℕ → Type 0) (xs ys : List (Lent ℕ)) → All P (xs ++ ys) → All P ys
All-later P [] ys h = h
All-later P (x ∷ xs) ys h = All-later P xs ys (All-tail P x (xs ++ ys) h)

silent-stays : (a : Answering) (e : Bool) (hs : List Happening) → stage_by a e hs stage.Silent ≡ stage.Silent
silent-stays a e [] = refl
silent-stays a e (Came group m ∷ hs) = silent-stays a e hs
silent-stays a e (Changed change.Leave ∷ hs) = silent-stays a e hs
silent-stays a e (Changed change.Sent ∷ hs) = silent-stays a e hs
silent-stays a e (Changed (change.Unsent n) ∷ hs) = silent-stays a e hs
silent-stays a e (Changed (change.Lose l) ∷ hs) = silent-stays a e hs
silent-stays a e (Changed change.Settle ∷ hs) = silent-stays a e hs
silent-stays a e (Read ∷ hs) = silent-stays a e hs

-- how far the request is where the link was seen empty, or not yet
abbrev pub IsEmptyAt : Bool → Stage → Type 0
IsEmptyAt true s = s ≡ stage.Silent
IsEmptyAt false s = is_over s ≡ false

module _ (a : Answering) (e : Bool) (protocol : NlFamily) (port q : ℕ) where
  -- these have come since then
  record HasPassed (was_sent : Bool) (hs : List Happening) (said : List (Lent ℕ)) (is_empty : Bool) : Type 0 where
    answer_is : answer_since was_sent a e hs ≡ as_items said
    stage_is : IsEmptyAt is_empty (stage_by a e hs (stage_of was_sent))

  abbrev IsWaitedFor : List Moment → Type 0
  IsWaitedFor ms = (was_sent : Bool) (said : List (Lent ℕ)) (is_empty : Bool) → All (IsBefore a) said
      → ComesUntilEmpty protocol port e q was_sent said ms is_empty
      → HasPassed was_sent (happenings protocol port q ms) said is_empty

  -- the link is seen empty
  settles : (c : Call) (gs : List Happening) (was_sent : Bool) → is_empty_by protocol was_sent c ≡ true
      → (answer_since was_sent a e (happens protocol port q c ++ gs) ≡ [])
      × (stage_by a e (happens protocol port q c ++ gs) (stage_of was_sent) ≡ stage.Silent)
  settles Quiet gs was_sent is = by (answers_at_once protocol) was_sent is
    where
      by : (b sent : Bool) → b && sent ≡ true
          → (answer_since sent a e (if_so b (Changed change.Settle) ++ gs) ≡ [])
          × (stage_by a e (if_so b (Changed change.Settle) ++ gs) (stage_of sent) ≡ stage.Silent)
      by true true is = (refl, silent-stays a e gs)
      by true false is = no-truth is
      by false sent is = no-truth is
  settles (Send by bytes) gs was_sent is = no-truth is
  settles Ask gs was_sent is = no-truth is
  settles (Outgoing o) gs was_sent is = no-truth is
  settles Sent gs was_sent is = no-truth is
  settles (NotSent errno) gs was_sent is = no-truth is
  settles (Receive group joined datagram) gs was_sent is = no-truth is
  settles (Fault errno) gs was_sent is = no-truth is
  settles (PassAnswer p) gs was_sent is = no-truth is
  settles PassMulticast gs was_sent is = no-truth is
  settles PassUnasked gs was_sent is = no-truth is
  settles (Close p) gs was_sent is = no-truth is
  settles CloseMulticast gs was_sent is = no-truth is

  awaited : (b : Bool) → is_awaited (stage_of b) ≡ true
  awaited true = refl
  awaited false = refl

  -- a datagram brings some of them
  brings : (group : ℕ) (joined : Bool) (datagram : List ℕ) (ms : List Moment) (was_sent : Bool)
      (said more : List (Lent ℕ)) (is_empty : Bool) → (messages_in {K = ℕ} (λ n. n) datagram).1 ≡ None → All (IsBefore a) said
      → said ≡ brought port e q (Receive group joined datagram) ++ more
      → ComesUntilEmpty protocol port e q was_sent more ms is_empty → IsWaitedFor ms
      → HasPassed was_sent (happens protocol port q (Receive group joined datagram) ++ happenings protocol port q ms)
      said is_empty
  brings group joined datagram ms was_sent said more is_empty whole before split comes later =
      let gs : List Happening = happenings protocol port q ms in
      let got : List (Lent ℕ) = brought port e q (Receive group joined datagram) in
      let parts : All (IsBefore a) (got ++ more) = subst (λ (xs : List (Lent ℕ)). All (IsBefore a) xs) split before in
      let first = All-first (IsBefore a) got more parts in
      let next = later was_sent more is_empty (All-later (IsBefore a) got more parts) comes in
      record {
        answer_is = ap (λ (hs : List Happening). answer_since was_sent a e hs)
            (received a e protocol port q gs group joined datagram whole)
            ∙ came-since a e port group q gs was_sent ((group == 0) || e) refl (messages_of datagram)
            ∙ until-before a got (answer_since was_sent a e gs) first
            ∙ ap (λ (xs : List Item). as_items got ++ xs) next.answer_is
            ∙ sym (map-append (λ m. Ok m) got more)
            ∙ ap (λ (xs : List (Lent ℕ)). as_items xs) (sym split);
        stage_is = subst (λ (s : Stage). IsEmptyAt is_empty s) (sym (
            ap (λ (hs : List Happening). stage_by a e hs (stage_of was_sent))
            (received a e protocol port q gs group joined datagram whole)
            ∙ stage-came a e port group q gs (stage_of was_sent) (awaited was_sent) ((group == 0) || e) refl
            (messages_of datagram)
            ∙ ap (λ (s : Stage). stage_by a e gs s) (stage-before a got (stage_of was_sent) first))) next.stage_is;
      }

  abbrev IsReached : Call → List Moment → Bool → List (Lent ℕ) → List (Lent ℕ) → Bool → Type 0
  IsReached c ms was_sent said more is_empty =
      said ≡ brought port e q c ++ more → ComesUntilEmpty protocol port e q (sent_after c was_sent) more ms is_empty
      → HasPassed was_sent (happens protocol port q c ++ happenings protocol port q ms) said is_empty

  reaches : (c : Call) (ms : List Moment) (was_sent : Bool) (said more : List (Lent ℕ)) (is_empty : Bool)
      → All (IsBefore a) said → IsFine protocol was_sent c → said ≡ brought port e q c ++ more
      → ComesUntilEmpty protocol port e q (sent_after c was_sent) more ms is_empty → IsWaitedFor ms
      → HasPassed was_sent (happens protocol port q c ++ happenings protocol port q ms) said is_empty
  reaches c ms was_sent said more is_empty before fine split comes later =
      by (kind a e protocol port q (happenings protocol port q ms) c was_sent fine)
    where
      by : IsPassed a e protocol port q (happenings protocol port q ms) c was_sent
          ⊎ IsDatagram a e protocol port q (happenings protocol port q ms) c
          → HasPassed was_sent (happens protocol port q c ++ happenings protocol port q ms) said is_empty
      by (inl is) =
          let same : said ≡ more = split ∙ ap (λ (xs : List (Lent ℕ)). xs ++ more) is.nothing in
          let next = later (sent_after c was_sent) said is_empty before
          (subst (λ (xs : List (Lent ℕ)). ComesUntilEmpty protocol port e q (sent_after c was_sent) xs ms is_empty)
          (sym same) comes) in
          record {
            answer_is = is.answer_is ∙ next.answer_is;
            stage_is = subst (λ (s : Stage). IsEmptyAt is_empty s) (sym is.stage_is) next.stage_is;
          }
      by (inr d) = subst (λ (x : Call). IsReached x ms was_sent said more is_empty) (sym d.is)
          (λ split comes. brings d.group d.joined d.datagram ms was_sent said more is_empty d.whole before split comes
          later) split comes

  waited : (ms : List Moment) → IsWaitedFor ms
  waited [] was_sent said is_empty before (none, open_is) = record {
    answer_is = ap (λ (xs : List (Lent ℕ)). as_items xs) (sym none);
    stage_is = subst (λ (b : Bool). IsEmptyAt b (stage_of was_sent)) (sym open_is)
        (not-over a e protocol port q was_sent);
  }
  waited (m ∷ ms) was_sent said is_empty before (now, later) =
      by (is_empty_by protocol was_sent m.call) refl (waited ms)
    where
      by : (b : Bool) → is_empty_by protocol was_sent m.call ≡ b → IsWaitedFor ms
          → HasPassed was_sent (happens protocol port q m.call ++ happenings protocol port q ms) said is_empty
      by true is more =
          let both = settles m.call (happenings protocol port q ms) was_sent is in
          let none = now is in
          record {
            answer_is = both.0 ∙ ap (λ (xs : List (Lent ℕ)). as_items xs) (sym none.0);
            stage_is = subst (λ (b : Bool). IsEmptyAt b (stage_by a e
                (happens protocol port q m.call ++ happenings protocol port q ms) (stage_of was_sent))) (sym none.1)
                both.1;
          }
      by false is more =
          let next = later is in
          reaches m.call ms was_sent said next.1 is_empty before next.0 next.2 next.3 more

  -- ---- from the send on

  pub record HasPassedOnceOut (hs : List Happening) (said : List (Lent ℕ)) (is_empty : Bool) : Type 0 where
    pub answer_is : answer a e hs ≡ as_items said
    pub stage_is : IsEmptyAt is_empty (stage_by a e hs stage.Queued)

  pub silent-once-out : (ms : List Moment) (said : List (Lent ℕ)) (is_empty : Bool) → All (IsBefore a) said
      → ComesOnceOutUntilEmpty protocol port e q said ms is_empty
      → HasPassedOnceOut (happenings protocol port q ms) said is_empty
  silent-once-out [] said is_empty before (none, open_is) = record {
    answer_is = ap (λ (xs : List (Lent ℕ)). as_items xs) (sym none);
    stage_is = subst (λ (b : Bool). IsEmptyAt b stage.Queued) (sym open_is) refl;
  }
  silent-once-out (m ∷ ms) said is_empty before (now, later) =
      by (goes_out q m.call) refl (silent-once-out ms said is_empty before)
    where
      by : (b : Bool) → goes_out q m.call ≡ b
          → (ComesOnceOutUntilEmpty protocol port e q said ms is_empty
          → HasPassedOnceOut (happenings protocol port q ms) said is_empty)
          → HasPassedOnceOut (happens protocol port q m.call ++ happenings protocol port q ms) said is_empty
      by true is more =
          let both = out a e protocol port q m.call (happenings protocol port q ms) is in
          let next = waited ms false said is_empty before (now is) in
          record {
            answer_is = both.0 ∙ next.answer_is;
            stage_is = subst (λ (s : Stage). IsEmptyAt is_empty s) (sym both.1) next.stage_is;
          }
      by false is more =
          let both = waits a e protocol port q (happenings protocol port q ms) m.call is in
          let next = more (later is) in
          record {
            answer_is = both.0 ∙ next.answer_is;
            stage_is = subst (λ (s : Stage). IsEmptyAt is_empty s) (sym both.1) next.stage_is;
          }
