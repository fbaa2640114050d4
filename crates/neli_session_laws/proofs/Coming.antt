-- A whole answer as it comes: what happens to its request, call by call.
use Rattle.std.proofs.Common.{ℕ, ◌≡◌, Bool, true, false, ◌&&◌, ◌||◌, All, List, [], ◌∷◌, ◌++◌, Option, None}
use Rattle.std.proofs.Common.{Ok, refl, sym, subst, ap, ◌∙◌, append_assoc, append-nil, inl, inr}
use Rattle.std.specs.Prelude.{◌==◌, ◌⊎◌, ℤ, if◌then◌else◌, is_some}
use Rattle.std.proofs.lemmas.List.{map-append}
use Rattle.std.proofs.lemmas.List.Elements.{All-cons, All-head, All-nil, All-tail}
use Rattle.neli_wire.specs.declared.errors.DeError.{DeError}
use Rattle.neli_answers.specs.declared.answering.Answering.{Answering}
use Rattle.neli_consts_system.specs.declared.socket.NlFamily.{NlFamily}
use Rattle.neli_lent.specs.Messages.{Lent, messages_in}
use Rattle.neli_session.specs.declared.change.Change.TheVariants as change
use Rattle.neli_session.specs.declared.loss.Loss.TheVariants as loss
use Rattle.neli_session.specs.declared.request.Stage.{Stage}
use Rattle.neli_session.specs.declared.request.Stage.TheVariants as stage
use Rattle.neli_session.specs.Happenings.{Came, Changed, Happening, Read, answer, answer_since, came_for, stage_by}
use Rattle.neli_session.specs.Histories.{Ask, Call, Close, CloseMulticast, Fault, Moment, NotSent, Outgoing}
use Rattle.neli_session.specs.Histories.{PassAnswer, PassMulticast, PassUnasked, Quiet, Receive, Send, Sent}
use Rattle.neli_session.specs.Histories.{happenings, happens, if_so, is_in}
use Rattle.neli_session.specs.Mails.{answers_at_once, numbers_in}
use Rattle.neli_session.specs.Messages.{messages_of}
use Rattle.neli_session.specs.Requests.{ends, is_awaited, is_over}
use Rattle.neli_session.specs.Sessions.{is_own}
use Rattle.neli_session.specs.Waiting.{Item, as_items}
use Rattle.neli_session_laws.specs.Answered.{IsWholeAnswer}
use Rattle.neli_session_laws.specs.Served.{Comes, ComesOnceOut, IsFine, brought, goes_out, own_of, sent_after}

pub no-truth : {A : Type 0} → false ≡ true → A
no-truth h = absurd cc

pub All-as : {P Q : Lent ℕ → Type 0} → ((m : Lent ℕ) → P m → Q m) → (ms : List (Lent ℕ)) → All P ms → All Q ms
All-as {P} {Q} by [] all = All-nil Q
All-as {P} {Q} by (m ∷ ms) all = All-cons Q m ms (by m (All-head P m ms all)) (All-as by ms (All-tail P m ms all))

first-same : (y z : Lent ℕ) (ys zs : List (Lent ℕ)) → y ∷ ys ≡ z ∷ zs → z ≡ y
first-same y z ys zs is = cc

-- ---- whole answers, from their front on

module _ (a : Answering) where
  abbrev pub IsBefore : Lent ℕ → Type 0
  IsBefore m = ends a m ≡ false

  -- where more is to come, none so far ends it
  record IsParted (front more : List (Lent ℕ)) : Type 0 where
    before : All IsBefore front
    whole : IsWholeAnswer a more

  none-whole : IsWholeAnswer a [] → ⊥
  none-whole whole = by whole.front whole.are
    where
      by : (front : List (Lent ℕ)) → [] ≡ front ++ whole.last ∷ [] → ⊥
      by [] is = cc
      by (m ∷ ms) is = cc

  parted : (front : List (Lent ℕ)) (d : Lent ℕ) (due : List (Lent ℕ)) → IsWholeAnswer a (front ++ d ∷ due)
      → IsParted front (d ∷ due)
  parted [] d due whole = record { before = All-nil IsBefore; whole = whole }
  parted (y ∷ ys) d due whole = by whole.front whole.are whole.not_before (parted ys d due)
    where
      never : (ys : List (Lent ℕ)) → ys ++ d ∷ due ≡ [] → ⊥
      never [] is = cc
      never (x ∷ xs) is = cc

      by : (front : List (Lent ℕ)) → y ∷ (ys ++ d ∷ due) ≡ front ++ whole.last ∷ [] → All IsBefore front
          → (IsWholeAnswer a (ys ++ d ∷ due) → IsParted ys (d ∷ due)) → IsParted (y ∷ ys) (d ∷ due)
      by [] is before later = absurd (never ys cc)
      by (z ∷ zs) is before later =
          let rest = later (record {
            front = zs;
            last = whole.last;
            are = cc;
            not_before = All-tail IsBefore z zs before;
            at_last = whole.at_last;
          }) in
          record {
            before = All-cons IsBefore y ys (subst IsBefore (first-same y z _ _ is) (All-head IsBefore z zs before))
                rest.before;
            whole = rest.whole;
          }

  -- ---- messages up to one that ends it, and what follows if none does

  abbrev pub until : List (Lent ℕ) → List Item → List Item
  until [] xs = xs
  until (m ∷ ms) xs = Ok m ∷ (if ends a m then [] else until ms xs)

  abbrev pub stage_until : List (Lent ℕ) → Stage → Stage
  stage_until [] s = s
  stage_until (m ∷ ms) s = if ends a m then stage.Ended else stage_until ms s

  pub until-before : (ms : List (Lent ℕ)) (xs : List Item) → All IsBefore ms → until ms xs ≡ as_items ms ++ xs
  until-before [] xs before = refl
  until-before (m ∷ ms) xs before =
      ap (λ (b : Bool). Ok m ∷ (if b then [] else until ms xs)) (All-head IsBefore m ms before)
      ∙ ap (λ (ys : List Item). Ok m ∷ ys) (until-before ms xs (All-tail IsBefore m ms before))

  pub stage-before : (ms : List (Lent ℕ)) (s : Stage) → All IsBefore ms → stage_until ms s ≡ s
  stage-before [] s before = refl
  stage-before (m ∷ ms) s before =
      ap (λ (b : Bool). if b then stage.Ended else stage_until ms s) (All-head IsBefore m ms before)
      ∙ stage-before ms s (All-tail IsBefore m ms before)

  until-last : (front : List (Lent ℕ)) (last : Lent ℕ) (xs : List Item) → All IsBefore front → ends a last ≡ true
      → until (front ++ last ∷ []) xs ≡ as_items (front ++ last ∷ [])
  until-last [] last xs before is = ap (λ (b : Bool). Ok last ∷ (if b then [] else xs)) is
  until-last (m ∷ ms) last xs before is =
      ap (λ (b : Bool). Ok m ∷ (if b then [] else until (ms ++ last ∷ []) xs)) (All-head IsBefore m ms before)
      ∙ ap (λ (ys : List Item). Ok m ∷ ys) (until-last ms last xs (All-tail IsBefore m ms before) is)

  stage-last : (front : List (Lent ℕ)) (last : Lent ℕ) (s : Stage) → All IsBefore front → ends a last ≡ true
      → stage_until (front ++ last ∷ []) s ≡ stage.Ended
  stage-last [] last s before is = ap (λ (b : Bool). if b then stage.Ended else s) is
  stage-last (m ∷ ms) last s before is =
      ap (λ (b : Bool). if b then stage.Ended else stage_until (ms ++ last ∷ []) s) (All-head IsBefore m ms before)
      ∙ stage-last ms last s (All-tail IsBefore m ms before) is

  until-whole : (said : List (Lent ℕ)) (xs : List Item) → IsWholeAnswer a said → until said xs ≡ as_items said
  until-whole said xs whole = subst (λ (ms : List (Lent ℕ)). until ms xs ≡ as_items ms) (sym whole.are)
      (until-last whole.front whole.last xs whole.not_before whole.at_last)

  stage-whole : (said : List (Lent ℕ)) (s : Stage) → IsWholeAnswer a said → stage_until said s ≡ stage.Ended
  stage-whole said s whole = subst (λ (ms : List (Lent ℕ)). stage_until ms s ≡ stage.Ended) (sym whole.are)
      (stage-last whole.front whole.last s whole.not_before whole.at_last)

-- ---- what comes of one datagram

abbrev pub stage_of : Bool → Stage
stage_of true = stage.Awaited
stage_of false = stage.Leaving

-- how far the request is where this is still due
abbrev pub IsAt : List (Lent ℕ) → Stage → Type 0
IsAt [] s = s ≡ stage.Ended
IsAt (d ∷ due) s = is_over s ≡ false

module _ (a : Answering) (e : Bool) (port group q : ℕ) (gs : List Happening) where
  abbrev pub came_first : List (Lent ℕ) → List Happening
  came_first ns = came_for port group q ns ++ gs

  pub came-since : (was_sent mine : Bool) → ((group == 0) || e) ≡ mine → (ns : List (Lent ℕ))
      → answer_since was_sent a e (came_first ns)
      ≡ until a (if mine then own_of port q ns else []) (answer_since was_sent a e gs)
  came-since was_sent true is [] = refl
  came-since was_sent false is [] = refl
  came-since was_sent true is (m ∷ ns) = go (is_own port m && (m.0.sequence_number == q))
      (came-since was_sent true is ns)
    where
      go : (b : Bool)
          → answer_since was_sent a e (came_first ns) ≡ until a (own_of port q ns) (answer_since was_sent a e gs)
          → answer_since was_sent a e ((if b then Came group m ∷ came_for port group q ns
          else came_for port group q ns) ++ gs)
          ≡ until a (if b then m ∷ own_of port q ns else own_of port q ns) (answer_since was_sent a e gs)
      go true more =
          ap (λ (b : Bool). if b then Ok m ∷ (if ends a m then [] else answer_since was_sent a e (came_first ns))
          else answer_since was_sent a e (came_first ns)) is
          ∙ ap (λ (xs : List Item). Ok m ∷ (if ends a m then [] else xs)) more
      go false more = more
  came-since was_sent false is (m ∷ ns) = go (is_own port m && (m.0.sequence_number == q))
      (came-since was_sent false is ns)
    where
      go : (b : Bool) → answer_since was_sent a e (came_first ns) ≡ answer_since was_sent a e gs
          → answer_since was_sent a e ((if b then Came group m ∷ came_for port group q ns
          else came_for port group q ns) ++ gs) ≡ answer_since was_sent a e gs
      go true more =
          ap (λ (b : Bool). if b then Ok m ∷ (if ends a m then [] else answer_since was_sent a e (came_first ns))
          else answer_since was_sent a e (came_first ns)) is ∙ more
      go false more = more

  ended-came : (ns : List (Lent ℕ)) → stage_by a e (came_first ns) stage.Ended ≡ stage_by a e gs stage.Ended
  ended-came [] = refl
  ended-came (m ∷ ns) = go (is_own port m && (m.0.sequence_number == q)) (ended-came ns)
    where
      go : (b : Bool) → stage_by a e (came_first ns) stage.Ended ≡ stage_by a e gs stage.Ended
          → stage_by a e ((if b then Came group m ∷ came_for port group q ns else came_for port group q ns) ++ gs)
          stage.Ended ≡ stage_by a e gs stage.Ended
      go true more = more
      go false more = more

  pub stage-came : (s : Stage) → is_awaited s ≡ true → (mine : Bool) → ((group == 0) || e) ≡ mine → (ns : List (Lent ℕ))
      → stage_by a e (came_first ns) s
      ≡ stage_by a e gs (stage_until a (if mine then own_of port q ns else []) s)
  stage-came s awaited true is [] = refl
  stage-came s awaited false is [] = refl
  stage-came s awaited true is (m ∷ ns) = go (is_own port m && (m.0.sequence_number == q))
      (stage-came s awaited true is ns)
    where
      last : (b : Bool)
          → stage_by a e (came_first ns) s ≡ stage_by a e gs (stage_until a (own_of port q ns) s)
          → stage_by a e (came_first ns) (if b then stage.Ended else s)
          ≡ stage_by a e gs (if b then stage.Ended else stage_until a (own_of port q ns) s)
      last true more = ended-came ns
      last false more = more

      go : (b : Bool)
          → stage_by a e (came_first ns) s ≡ stage_by a e gs (stage_until a (own_of port q ns) s)
          → stage_by a e ((if b then Came group m ∷ came_for port group q ns else came_for port group q ns) ++ gs) s
          ≡ stage_by a e gs (stage_until a (if b then m ∷ own_of port q ns else own_of port q ns) s)
      go true more =
          ap (λ (b : Bool). stage_by a e (came_first ns) (if b && ((group == 0) || e)
          then (if ends a m then stage.Ended else s) else s)) awaited
          ∙ ap (λ (b : Bool). stage_by a e (came_first ns) (if b then (if ends a m then stage.Ended else s) else s)) is
          ∙ last (ends a m) more
      go false more = more
  stage-came s awaited false is (m ∷ ns) = go (is_own port m && (m.0.sequence_number == q))
      (stage-came s awaited false is ns)
    where
      go : (b : Bool) → stage_by a e (came_first ns) s ≡ stage_by a e gs s
          → stage_by a e ((if b then Came group m ∷ came_for port group q ns else came_for port group q ns) ++ gs) s
          ≡ stage_by a e gs s
      go true more =
          ap (λ (b : Bool). stage_by a e (came_first ns) (if b && ((group == 0) || e)
          then (if ends a m then stage.Ended else s) else s)) awaited
          ∙ ap (λ (b : Bool). stage_by a e (came_first ns) (if b then (if ends a m then stage.Ended else s) else s)) is
          ∙ more
      go false more = more

  -- nothing comes before it goes out
  answer-came : (ns : List (Lent ℕ)) → answer a e (came_first ns) ≡ answer a e gs
  answer-came [] = refl
  answer-came (m ∷ ns) = go (is_own port m && (m.0.sequence_number == q)) (answer-came ns)
    where
      go : (b : Bool) → answer a e (came_first ns) ≡ answer a e gs
          → answer a e ((if b then Came group m ∷ came_for port group q ns else came_for port group q ns) ++ gs)
          ≡ answer a e gs
      go true more = more
      go false more = more

  queued-came : (ns : List (Lent ℕ)) → stage_by a e (came_first ns) stage.Queued ≡ stage_by a e gs stage.Queued
  queued-came [] = refl
  queued-came (m ∷ ns) = go (is_own port m && (m.0.sequence_number == q)) (queued-came ns)
    where
      go : (b : Bool) → stage_by a e (came_first ns) stage.Queued ≡ stage_by a e gs stage.Queued
          → stage_by a e ((if b then Came group m ∷ came_for port group q ns else came_for port group q ns) ++ gs)
          stage.Queued ≡ stage_by a e gs stage.Queued
      go true more = more
      go false more = more

ended-stays : (a : Answering) (e : Bool) (hs : List Happening) → stage_by a e hs stage.Ended ≡ stage.Ended
ended-stays a e [] = refl
ended-stays a e (Came group m ∷ hs) = ended-stays a e hs
ended-stays a e (Changed change.Leave ∷ hs) = ended-stays a e hs
ended-stays a e (Changed change.Sent ∷ hs) = ended-stays a e hs
ended-stays a e (Changed (change.Unsent n) ∷ hs) = ended-stays a e hs
ended-stays a e (Changed (change.Lose l) ∷ hs) = ended-stays a e hs
ended-stays a e (Changed change.Settle ∷ hs) = ended-stays a e hs
ended-stays a e (Read ∷ hs) = ended-stays a e hs

-- ---- one call

module _ (a : Answering) (e : Bool) (protocol : NlFamily) (port q : ℕ) (gs : List Happening) where
  abbrev pub first_of : Call → List Happening
  first_of c = happens protocol port q c ++ gs

  -- it brings nothing
  pub record IsPassed (c : Call) (was_sent : Bool) : Type 0 where
    pub answer_is : answer_since was_sent a e (first_of c) ≡ answer_since (sent_after c was_sent) a e gs
    pub stage_is : stage_by a e (first_of c) (stage_of was_sent) ≡ stage_by a e gs (stage_of (sent_after c was_sent))
    pub nothing : brought port e q c ≡ []

  leaves : (b was_sent : Bool)
      → (answer_since was_sent a e (if_so b (Changed change.Leave) ++ gs) ≡ answer_since was_sent a e gs)
      × (stage_by a e (if_so b (Changed change.Leave) ++ gs) (stage_of was_sent)
      ≡ stage_by a e gs (stage_of was_sent))
  leaves true true = (refl, refl)
  leaves true false = (refl, refl)
  leaves false was_sent = (refl, refl)

  reads : (b was_sent : Bool) → (answer_since was_sent a e (if_so b Read ++ gs) ≡ answer_since was_sent a e gs)
      × (stage_by a e (if_so b Read ++ gs) (stage_of was_sent) ≡ stage_by a e gs (stage_of was_sent))
  reads true was_sent = (refl, refl)
  reads false was_sent = (refl, refl)

  settles : (b was_sent : Bool) → b && was_sent ≡ false
      → (answer_since was_sent a e (if_so b (Changed change.Settle) ++ gs) ≡ answer_since was_sent a e gs)
      × (stage_by a e (if_so b (Changed change.Settle) ++ gs) (stage_of was_sent)
      ≡ stage_by a e gs (stage_of was_sent))
  settles true true is = no-truth (sym is)
  settles true false is = (refl, refl)
  settles false was_sent is = (refl, refl)

  unsent : (errno : ℤ) (was_sent : Bool) → was_sent ≡ true → IsPassed (NotSent errno) was_sent
  unsent errno true is = record { answer_is = refl; stage_is = refl; nothing = refl }
  unsent errno false is = no-truth is

  is-sent : (was_sent : Bool) → IsPassed Sent was_sent
  is-sent true = record { answer_is = refl; stage_is = refl; nothing = refl }
  is-sent false = record { answer_is = refl; stage_is = refl; nothing = refl }

  -- it is a datagram without a fault
  pub record IsDatagram (c : Call) : Type 0 where
    pub group : ℕ
    pub joined : Bool
    pub datagram : List ℕ
    pub is : c ≡ Receive group joined datagram
    pub whole : (messages_in {K = ℕ} (λ n. n) datagram).1 ≡ None

  pub kind : (c : Call) (was_sent : Bool) → IsFine protocol was_sent c → IsPassed c was_sent ⊎ IsDatagram c
  kind (Send by bytes) was_sent fine = inl (record { answer_is = refl; stage_is = refl; nothing = refl })
  kind Ask was_sent fine = inl (record { answer_is = refl; stage_is = refl; nothing = refl })
  kind (Outgoing o) was_sent fine =
      let both = leaves (is_in q (numbers_in o)) was_sent in
      inl (record { answer_is = both.0; stage_is = both.1; nothing = refl })
  kind Sent was_sent fine = inl (is-sent was_sent)
  kind (NotSent errno) was_sent fine = inl (unsent errno was_sent fine)
  kind (Receive group joined datagram) was_sent fine = inr (record {
    group = group;
    joined = joined;
    datagram = datagram;
    is = refl;
    whole = fine;
  })
  kind (Fault errno) was_sent fine = absurd fine
  kind Quiet was_sent fine =
      let both = settles (answers_at_once protocol) was_sent fine in
      inl (record { answer_is = both.0; stage_is = both.1; nothing = refl })
  kind (PassAnswer p) was_sent fine =
      let both = reads (p == q) was_sent in
      inl (record { answer_is = both.0; stage_is = both.1; nothing = refl })
  kind PassMulticast was_sent fine = inl (record { answer_is = refl; stage_is = refl; nothing = refl })
  kind PassUnasked was_sent fine = inl (record { answer_is = refl; stage_is = refl; nothing = refl })
  kind (Close p) was_sent fine = inl (record { answer_is = refl; stage_is = refl; nothing = refl })
  kind CloseMulticast was_sent fine = inl (record { answer_is = refl; stage_is = refl; nothing = refl })

  -- a datagram without a fault
  pub received : (group : ℕ) (joined : Bool) (datagram : List ℕ) → (messages_in {K = ℕ} (λ n. n) datagram).1 ≡ None
      → first_of (Receive group joined datagram) ≡ came_for port group q (messages_of datagram) ++ gs
  received group joined datagram whole =
      ap (λ (o : Option DeError). (came_for port group q (messages_of datagram)
      ++ if_so (is_some o) (Changed (change.Lose loss.Datagram))) ++ gs) whole
      ∙ ap (λ (hs : List Happening). hs ++ gs) (append-nil (came_for port group q (messages_of datagram)))

  -- before the request goes out nothing answers it
  pub waits : (c : Call) → goes_out q c ≡ false
      → (answer a e (first_of c) ≡ answer a e gs)
      × (stage_by a e (first_of c) stage.Queued ≡ stage_by a e gs stage.Queued)
  waits (Send by bytes) stays = (refl, refl)
  waits Ask stays = (refl, refl)
  waits (Outgoing o) stays = go (is_in q (numbers_in o)) stays
    where
      go : (b : Bool) → b ≡ false
          → (answer a e (if_so b (Changed change.Leave) ++ gs) ≡ answer a e gs)
          × (stage_by a e (if_so b (Changed change.Leave) ++ gs) stage.Queued ≡ stage_by a e gs stage.Queued)
      go true is = no-truth (sym is)
      go false is = (refl, refl)
  waits Sent stays = (refl, refl)
  waits (NotSent errno) stays = (refl, refl)
  waits (Receive group joined datagram) stays =
      let lost : List Happening = if_so (is_some (messages_in {K = ℕ} (λ n. n) datagram).1)
      (Changed (change.Lose loss.Datagram)) in
      let same : first_of (Receive group joined datagram) ≡ came_for port group q (messages_of datagram) ++ (lost ++ gs) =
      append_assoc (came_for port group q (messages_of datagram)) lost gs in
      let both = go (is_some (messages_in {K = ℕ} (λ n. n) datagram).1) in (
        ap (λ (hs : List Happening). answer a e hs) same
            ∙ answer-came a e port group q (lost ++ gs) (messages_of datagram) ∙ both.0,
        ap (λ (hs : List Happening). stage_by a e hs stage.Queued) same
            ∙ queued-came a e port group q (lost ++ gs) (messages_of datagram) ∙ both.1,
      )
    where
      go : (b : Bool)
          → (answer a e (if_so b (Changed (change.Lose loss.Datagram)) ++ gs) ≡ answer a e gs)
          × (stage_by a e (if_so b (Changed (change.Lose loss.Datagram)) ++ gs) stage.Queued
          ≡ stage_by a e gs stage.Queued)
      go true = (refl, refl)
      go false = (refl, refl)
  waits (Fault errno) stays = (refl, refl)
  waits Quiet stays = go (answers_at_once protocol)
    where
      go : (b : Bool)
          → (answer a e (if_so b (Changed change.Settle) ++ gs) ≡ answer a e gs)
          × (stage_by a e (if_so b (Changed change.Settle) ++ gs) stage.Queued ≡ stage_by a e gs stage.Queued)
      go true = (refl, refl)
      go false = (refl, refl)
  waits (PassAnswer p) stays = go (p == q)
    where
      go : (b : Bool)
          → (answer a e (if_so b Read ++ gs) ≡ answer a e gs)
          × (stage_by a e (if_so b Read ++ gs) stage.Queued ≡ stage_by a e gs stage.Queued)
      go true = (refl, refl)
      go false = (refl, refl)
  waits PassMulticast stays = (refl, refl)
  waits PassUnasked stays = (refl, refl)
  waits (Close p) stays = (refl, refl)
  waits CloseMulticast stays = (refl, refl)

-- ---- all calls

module _ (a : Answering) (e : Bool) (protocol : NlFamily) (port q : ℕ) where
  -- of what is due all but the rest has come
  record HasCome (was_sent : Bool) (hs : List Happening) (due rest : List (Lent ℕ)) : Type 0 where
    came : List (Lent ℕ)
    all : due ≡ came ++ rest
    answer_is : answer_since was_sent a e hs ≡ as_items came
    stage_is : IsAt rest (stage_by a e hs (stage_of was_sent))

  still-at : (due : List (Lent ℕ)) (s : Stage) → IsWholeAnswer a due → is_over s ≡ false → IsAt due s
  still-at [] s whole is = absurd (none-whole a whole)
  still-at (d ∷ due) s whole is = is

  pub not-over : (was_sent : Bool) → is_over (stage_of was_sent) ≡ false
  not-over true = refl
  not-over false = refl

  abbrev IsFollowed : List Moment → Type 0
  IsFollowed ms = (was_sent : Bool) (due rest : List (Lent ℕ)) → IsWholeAnswer a due
      → Comes protocol port e q was_sent due ms rest
      → HasCome was_sent (happenings protocol port q ms) due rest

  -- a call that brings nothing of it
  call-passed : (c : Call) (ms : List Moment) (was_sent : Bool) (due more rest : List (Lent ℕ)) → IsWholeAnswer a due
      → IsPassed a e protocol port q (happenings protocol port q ms) c was_sent
      → due ≡ brought port e q c ++ more → Comes protocol port e q (sent_after c was_sent) more ms rest → IsFollowed ms
      → HasCome was_sent (happens protocol port q c ++ happenings protocol port q ms) due rest
  call-passed c ms was_sent due more rest whole is split comes later =
      let same : due ≡ more = split ∙ ap (λ (xs : List (Lent ℕ)). xs ++ more) is.nothing in
      let next = later (sent_after c was_sent) due rest whole
      (subst (λ (xs : List (Lent ℕ)). Comes protocol port e q (sent_after c was_sent) xs ms rest) (sym same) comes) in
      record {
        came = next.came;
        all = next.all;
        answer_is = is.answer_is ∙ next.answer_is;
        stage_is = subst (λ (s : Stage). IsAt rest s) (sym is.stage_is) next.stage_is;
      }

  -- a datagram brings all of it, or a part
  module _ (group : ℕ) (joined : Bool) (datagram : List ℕ) (ms : List Moment) (was_sent : Bool)
      (whole : (messages_in {K = ℕ} (λ n. n) datagram).1 ≡ None) where
    abbrev later_on : List Happening
    later_on = happenings protocol port q ms

    abbrev got : List (Lent ℕ)
    got = brought port e q (Receive group joined datagram)

    abbrev from_now : List Happening
    from_now = happens protocol port q (Receive group joined datagram) ++ later_on

    awaited : (b : Bool) → is_awaited (stage_of b) ≡ true
    awaited true = refl
    awaited false = refl

    brings : answer_since was_sent a e from_now ≡ until a got (answer_since was_sent a e later_on)
    brings = ap (λ (xs : List Happening). answer_since was_sent a e xs)
        (received a e protocol port q later_on group joined datagram whole)
        ∙ came-since a e port group q later_on was_sent ((group == 0) || e) refl (messages_of datagram)

    staged : stage_by a e from_now (stage_of was_sent) ≡ stage_by a e later_on (stage_until a got (stage_of was_sent))
    staged = ap (λ (xs : List Happening). stage_by a e xs (stage_of was_sent))
        (received a e protocol port q later_on group joined datagram whole)
        ∙ stage-came a e port group q later_on (stage_of was_sent) (awaited was_sent) ((group == 0) || e) refl
        (messages_of datagram)

    call-brings : (due more rest : List (Lent ℕ)) → IsWholeAnswer a due → due ≡ got ++ more
        → Comes protocol port e q was_sent more ms rest → IsFollowed ms → HasCome was_sent from_now due rest
    call-brings due [] rest due_whole split none later =
        let all : due ≡ got = split ∙ append-nil got in
        let is : IsWholeAnswer a got = subst (λ (xs : List (Lent ℕ)). IsWholeAnswer a xs) all due_whole in
        let end = staged ∙ ap (λ (s : Stage). stage_by a e later_on s) (stage-whole a got (stage_of was_sent) is)
        ∙ ended-stays a e later_on in
        record {
          came = got;
          all = split ∙ ap (λ (xs : List (Lent ℕ)). got ++ xs) (sym none);
          answer_is = brings ∙ until-whole a got (answer_since was_sent a e later_on) is;
          stage_is = subst (λ (xs : List (Lent ℕ)). IsAt xs (stage_by a e from_now (stage_of was_sent))) (sym none) end;
        }
    call-brings due (d ∷ more) rest due_whole split comes later =
        let is : IsParted a got (d ∷ more) = parted a got d more
        (subst (λ (xs : List (Lent ℕ)). IsWholeAnswer a xs) split due_whole) in
        let next = later was_sent (d ∷ more) rest is.whole comes in
        record {
          came = got ++ next.came;
          all = split ∙ ap (λ (xs : List (Lent ℕ)). got ++ xs) next.all ∙ sym (append_assoc got next.came rest);
          answer_is = brings ∙ until-before a got (answer_since was_sent a e later_on) is.before
              ∙ ap (λ (xs : List Item). as_items got ++ xs) next.answer_is
              ∙ sym (map-append (λ m. Ok m) got next.came);
          stage_is = subst (λ (s : Stage). IsAt rest s) (sym (staged
              ∙ ap (λ (s : Stage). stage_by a e later_on s) (stage-before a got (stage_of was_sent) is.before)))
              next.stage_is;
        }

  abbrev IsReached : Call → List Moment → Bool → List (Lent ℕ) → List (Lent ℕ) → List (Lent ℕ) → Type 0
  IsReached c ms was_sent due more rest =
      due ≡ brought port e q c ++ more → Comes protocol port e q (sent_after c was_sent) more ms rest
      → HasCome was_sent (happens protocol port q c ++ happenings protocol port q ms) due rest

  call-followed : (c : Call) (ms : List Moment) (was_sent : Bool) (due more rest : List (Lent ℕ)) → IsWholeAnswer a due
      → IsFine protocol was_sent c → due ≡ brought port e q c ++ more
      → Comes protocol port e q (sent_after c was_sent) more ms rest → IsFollowed ms
      → HasCome was_sent (happens protocol port q c ++ happenings protocol port q ms) due rest
  call-followed c ms was_sent due more rest whole fine split comes later =
      by (kind a e protocol port q (happenings protocol port q ms) c was_sent fine)
    where
      by : IsPassed a e protocol port q (happenings protocol port q ms) c was_sent
          ⊎ IsDatagram a e protocol port q (happenings protocol port q ms) c
          → HasCome was_sent (happens protocol port q c ++ happenings protocol port q ms) due rest
      by (inl is) = call-passed c ms was_sent due more rest whole is split comes later
      by (inr d) = subst (λ (x : Call). IsReached x ms was_sent due more rest) (sym d.is)
          (λ split comes. call-brings d.group d.joined d.datagram ms was_sent d.whole due more rest whole split comes
          later) split comes

  followed : (ms : List Moment) → IsFollowed ms
  followed ms was_sent [] rest whole comes = absurd (none-whole a whole)
  followed [] was_sent (d ∷ due) rest whole is = record {
    came = [];
    all = sym is;
    answer_is = refl;
    stage_is = subst (λ (xs : List (Lent ℕ)). IsAt xs (stage_of was_sent)) (sym is) (not-over was_sent);
  }
  followed (m ∷ ms) was_sent (d ∷ due) rest whole (fine, more, split, comes) =
      call-followed m.call ms was_sent (d ∷ due) more rest whole fine split comes (followed ms)

  -- ---- from the send on

  pub record HasComeOnceOut (hs : List Happening) (said rest : List (Lent ℕ)) : Type 0 where
    pub came : List (Lent ℕ)
    pub all : said ≡ came ++ rest
    pub answer_is : answer a e hs ≡ as_items came
    pub stage_is : IsAt rest (stage_by a e hs stage.Queued)

  pub out : (c : Call) (hs : List Happening) → goes_out q c ≡ true
      → (answer a e (happens protocol port q c ++ hs) ≡ answer_since false a e hs)
      × (stage_by a e (happens protocol port q c ++ hs) stage.Queued ≡ stage_by a e hs stage.Leaving)
  out (Outgoing o) hs is = go (is_in q (numbers_in o)) is
    where
      go : (b : Bool) → b ≡ true
          → (answer a e (if_so b (Changed change.Leave) ++ hs) ≡ answer_since false a e hs)
          × (stage_by a e (if_so b (Changed change.Leave) ++ hs) stage.Queued ≡ stage_by a e hs stage.Leaving)
      go true is = (refl, refl)
      go false is = no-truth is
  out (Send by bytes) hs is = no-truth is
  out Ask hs is = no-truth is
  out Sent hs is = no-truth is
  out (NotSent errno) hs is = no-truth is
  out (Receive group joined datagram) hs is = no-truth is
  out (Fault errno) hs is = no-truth is
  out Quiet hs is = no-truth is
  out (PassAnswer p) hs is = no-truth is
  out PassMulticast hs is = no-truth is
  out PassUnasked hs is = no-truth is
  out (Close p) hs is = no-truth is
  out CloseMulticast hs is = no-truth is

  pub once-out : (ms : List Moment) (said rest : List (Lent ℕ)) → IsWholeAnswer a said
      → ComesOnceOut protocol port e q said ms rest → HasComeOnceOut (happenings protocol port q ms) said rest
  once-out [] said rest whole is = record {
    came = [];
    all = sym is;
    answer_is = refl;
    stage_is = subst (λ (xs : List (Lent ℕ)). IsAt xs stage.Queued) (sym is) (still-at said stage.Queued whole refl);
  }
  once-out (m ∷ ms) said rest whole (now, later) = go (goes_out q m.call) refl (once-out ms said rest whole)
    where
      go : (b : Bool) → goes_out q m.call ≡ b
          → (ComesOnceOut protocol port e q said ms rest → HasComeOnceOut (happenings protocol port q ms) said rest)
          → HasComeOnceOut (happens protocol port q m.call ++ happenings protocol port q ms) said rest
      go true is more =
          let both = out m.call (happenings protocol port q ms) is in
          let next = followed ms false said rest whole (now is) in
          record {
            came = next.came;
            all = next.all;
            answer_is = both.0 ∙ next.answer_is;
            stage_is = subst (λ (s : Stage). IsAt rest s) (sym both.1) next.stage_is;
          }
      go false is more =
          let both = waits a e protocol port q (happenings protocol port q ms) m.call is in
          let next = more (later is) in
          record {
            came = next.came;
            all = next.all;
            answer_is = both.0 ∙ next.answer_is;
            stage_is = subst (λ (s : Stage). IsAt rest s) (sym both.1) next.stage_is;
          }
