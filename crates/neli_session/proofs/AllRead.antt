-- What reads return, one happening more at a time.
use Rattle.std.proofs.Common.{ℕ, ◌≡◌, Bool, true, false, not, ◌&&◌, ◌||◌, List, [], ◌∷◌, ◌++◌, Option, Some, None, Ok, Err}
use Rattle.std.proofs.Common.{refl, sym, subst, ap, ◌∙◌}
use Rattle.std.specs.Prelude.{◌==◌, if◌then◌else◌, is_some}
use Rattle.neli_answers.specs.declared.answering.Answering.{Answering}
use Rattle.neli_lent.specs.Messages.{Lent}
use Rattle.neli_session.specs.declared.change.Change.{Change}
use Rattle.neli_session.specs.declared.change.Change.TheVariants as change
use Rattle.neli_session.specs.declared.loss.Loss.{Loss}
use Rattle.neli_session.specs.declared.loss.Loss.TheVariants as loss
use Rattle.neli_session.specs.declared.request.Request.{Request}
use Rattle.neli_session.specs.declared.request.Stage.{Stage}
use Rattle.neli_session.specs.declared.request.Stage.TheVariants as stage
use Rattle.neli_session.specs.declared.request.Verdict.{Verdict}
use Rattle.neli_session.specs.Requests.{answers, changed, ends, heard, is_awaited, is_over}
use Rattle.neli_session.specs.Sessions.{after_all, after_own, is_own, kept, queued}
use Rattle.neli_session.specs.Happenings.{Happening, Came, Changed, Read, after_happenings, answer, answer_since}
use Rattle.neli_session.specs.Happenings.{came_for, left, loss_list, returned, returned_by, then_is}
use Rattle.neli_session.specs.Waiting.{Item}

append-assoc : (xs ys zs : List Item) → (xs ++ ys) ++ zs ≡ xs ++ (ys ++ zs)
append-assoc [] ys zs = refl
append-assoc (x ∷ xs) ys zs = ap (λ (ws : List Item). x ∷ ws) (append-assoc xs ys zs)

append-none : (xs : List Item) → xs ++ [] ≡ xs
append-none [] = refl
append-none (x ∷ xs) = ap (λ (ys : List Item). x ∷ ys) (append-none xs)

-- somebody reads, and no loss was read that did not come
pub record IsSound (r : Request) : Type 0 where
  pub open_is : r.is_open ≡ true
  pub told : r.loss ≡ None → r.is_told ≡ false

-- what is still to come for it: nothing where it has ended, or something was lost
abbrev pub future_at : Stage → Answering → Bool → List Happening → List Item
future_at stage.Queued a e hs = answer a e hs
future_at stage.Leaving a e hs = answer_since false a e hs
future_at stage.Awaited a e hs = answer_since true a e hs
future_at s a e hs = []

abbrev pub future : Request → List Happening → List Item
future r hs = if is_some r.loss then [] else future_at r.stage r.answering r.echoes hs

-- ---- a request by its fields

abbrev made : Answering → Bool → Stage → List Item → Option Loss → Bool → Verdict → Bool → Request
made a e s w l t v f = record {
  answering = a;
  echoes = e;
  stage = s;
  is_open = true;
  waiting = w;
  loss = l;
  is_told = t;
  noted = v;
  is_filtered = f;
}

module _ (a : Answering) (e : Bool) (v : Verdict) (f : Bool) (hs : List Happening) where
  -- a message came while the answer is awaited, and nothing was lost
  came : (s : Stage) (m : Lent ℕ) (w : List Item) (mine : Bool)
      → (left (if mine then made a e (if ends a m then stage.Ended else s)
      (w ++ Ok m ∷ []) None false v f else made a e s w None false v f)
      ++ future (if mine then made a e (if ends a m then stage.Ended
      else s) (w ++ Ok m ∷ []) None false v f else made a e s w None false v f) hs)
      ≡ (w ++ []) ++ (if mine then Ok m ∷ (if ends a m then []
      else future_at s a e hs) else future_at s a e hs)
  came s m w true = by (ends a m)
    where
      by : (b : Bool) → (left (made a e (if b then stage.Ended else s) (w ++ Ok m ∷ []) None false v f)
          ++ future (made a e (if b then stage.Ended else s) (w ++ Ok m ∷ []) None false v f) hs)
          ≡ (w ++ []) ++ (Ok m ∷ (if b then [] else future_at s a e hs))
      by true = append-none ((w ++ Ok m ∷ []) ++ []) ∙ append-none (w ++ Ok m ∷ [])
          ∙ ap (λ (xs : List Item). xs ++ Ok m ∷ []) (sym (append-none w))
      by false = ap (λ (xs : List Item). xs ++ future_at s a e hs) (append-none (w ++ Ok m ∷ []))
          ∙ append-assoc w (Ok m ∷ []) (future_at s a e hs)
          ∙ ap (λ (xs : List Item). xs ++ (Ok m ∷ future_at s a e hs)) (sym (append-none w))
  came s m w false = refl

  -- a message came after a loss: it is not kept
  came_late : (s : Stage) (m : Lent ℕ) (w : List Item) (x : Loss) (t mine last : Bool)
      → (left (if mine then made a e (if last then stage.Ended else s) w (Some x) t v f
      else made a e s w (Some x) t v f)
      ++ future (if mine then made a e (if last then stage.Ended else s) w (Some x) t v f
      else made a e s w (Some x) t v f) hs)
      ≡ left (made a e s w (Some x) t v f) ++ []
  came_late s m w x t true true = refl
  came_late s m w x t true false = refl
  came_late s m w x t false last = refl

  -- the first loss is told after what waits
  told-last : (w : List Item) (y : Loss) → (w ++ Err y ∷ []) ++ [] ≡ (w ++ []) ++ Err y ∷ []
  told-last w y = append-none (w ++ Err y ∷ []) ∙ ap (λ (xs : List Item). xs ++ Err y ∷ []) (sym (append-none w))

  changed-by : (c : Change) (s : Stage) (w : List Item) (l : Option Loss) (t : Bool) → (l ≡ None → t ≡ false)
      → left (changed c (made a e s w l t v f)) ++ future (changed c (made a e s w l t v f)) hs
      ≡ left (made a e s w l t v f) ++ future (made a e s w l t v f) (Changed c ∷ hs)
  changed-by change.Leave stage.Queued w None t told = refl
  changed-by change.Leave stage.Leaving w None t told = refl
  changed-by change.Leave stage.Awaited w None t told = refl
  changed-by change.Leave stage.Ended w None t told = refl
  changed-by change.Leave stage.Silent w None t told = refl
  changed-by change.Leave s w (Some x) t told = refl
  changed-by change.Sent stage.Queued w None t told = refl
  changed-by change.Sent stage.Leaving w None t told = refl
  changed-by change.Sent stage.Awaited w None t told = refl
  changed-by change.Sent stage.Ended w None t told = refl
  changed-by change.Sent stage.Silent w None t told = refl
  changed-by change.Sent s w (Some x) t told = refl
  changed-by (change.Unsent n) stage.Queued w None t told = refl
  changed-by (change.Unsent n) stage.Leaving w None true told = (let no = told refl in cc)
  changed-by (change.Unsent n) stage.Leaving w None false told = told-last w (loss.Unsent n)
  changed-by (change.Unsent n) stage.Awaited w None t told = refl
  changed-by (change.Unsent n) stage.Ended w None t told = refl
  changed-by (change.Unsent n) stage.Silent w None t told = refl
  changed-by (change.Unsent n) stage.Queued w (Some x) t told = refl
  changed-by (change.Unsent n) stage.Leaving w (Some x) t told = refl
  changed-by (change.Unsent n) stage.Awaited w (Some x) t told = refl
  changed-by (change.Unsent n) stage.Ended w (Some x) t told = refl
  changed-by (change.Unsent n) stage.Silent w (Some x) t told = refl
  changed-by (change.Lose y) stage.Queued w None t told = refl
  changed-by (change.Lose y) stage.Leaving w None true told = (let no = told refl in cc)
  changed-by (change.Lose y) stage.Leaving w None false told = told-last w y
  changed-by (change.Lose y) stage.Awaited w None true told = (let no = told refl in cc)
  changed-by (change.Lose y) stage.Awaited w None false told = told-last w y
  changed-by (change.Lose y) stage.Ended w None t told = refl
  changed-by (change.Lose y) stage.Silent w None t told = refl
  changed-by (change.Lose y) stage.Queued w (Some x) t told = refl
  changed-by (change.Lose y) stage.Leaving w (Some x) t told = refl
  changed-by (change.Lose y) stage.Awaited w (Some x) t told = refl
  changed-by (change.Lose y) stage.Ended w (Some x) t told = refl
  changed-by (change.Lose y) stage.Silent w (Some x) t told = refl
  changed-by change.Settle stage.Queued w None t told = refl
  changed-by change.Settle stage.Leaving w None t told = refl
  changed-by change.Settle stage.Awaited w None t told = refl
  changed-by change.Settle stage.Ended w None t told = refl
  changed-by change.Settle stage.Silent w None t told = refl
  changed-by change.Settle s w (Some x) t told = refl

  step-by : (h : Happening) (s : Stage) (w : List Item) (l : Option Loss) (t : Bool) → (l ≡ None → t ≡ false)
      → returned h (made a e s w l t v f) ++ (left (then_is h (made a e s w l t v f))
      ++ future (then_is h (made a e s w l t v f)) hs)
      ≡ left (made a e s w l t v f) ++ future (made a e s w l t v f) (h ∷ hs)
  step-by (Came group m) stage.Leaving w None true told = (let no = told refl in cc)
  step-by (Came group m) stage.Leaving w None false told = came stage.Leaving m w ((group == 0) || e)
  step-by (Came group m) stage.Leaving w (Some x) t told =
      came_late stage.Leaving m w x t ((group == 0) || e) (ends a m)
  step-by (Came group m) stage.Awaited w None true told = (let no = told refl in cc)
  step-by (Came group m) stage.Awaited w None false told = came stage.Awaited m w ((group == 0) || e)
  step-by (Came group m) stage.Awaited w (Some x) t told =
      came_late stage.Awaited m w x t ((group == 0) || e) (ends a m)
  step-by (Came group m) stage.Queued w None t told = refl
  step-by (Came group m) stage.Ended w None t told = refl
  step-by (Came group m) stage.Silent w None t told = refl
  step-by (Came group m) stage.Queued w (Some x) t told = refl
  step-by (Came group m) stage.Ended w (Some x) t told = refl
  step-by (Came group m) stage.Silent w (Some x) t told = refl
  step-by (Changed c) s w l t told = changed-by c s w l t told
  step-by Read s (x ∷ w) None t told = read-none s
    where
      read-none : (s : Stage) → (x ∷ []) ++ ((w ++ loss_list (if t then None else None)) ++ future_at s a e hs)
          ≡ (x ∷ w ++ loss_list (if t then None else None)) ++ future_at s a e (Read ∷ hs)
      read-none stage.Queued = refl
      read-none stage.Leaving = refl
      read-none stage.Awaited = refl
      read-none stage.Ended = refl
      read-none stage.Silent = refl
  step-by Read s (x ∷ w) (Some y) t told = refl
  step-by Read s [] None true told = (let no = told refl in cc)
  step-by Read stage.Queued [] None false told = refl
  step-by Read stage.Leaving [] None false told = refl
  step-by Read stage.Awaited [] None false told = refl
  step-by Read stage.Ended [] None false told = refl
  step-by Read stage.Silent [] None false told = refl
  step-by Read s [] (Some x) true told = refl
  step-by Read s [] (Some x) false told = refl

module _ (a : Answering) (e : Bool) (v : Verdict) (f : Bool) (w : List Item) where
  sound-came : (m : Lent ℕ) (s : Stage) (l : Option Loss) (t mine : Bool) → (l ≡ None → t ≡ false)
      → IsSound (if mine then heard m (made a e s w l t v f) else made a e s w l t v f)
  sound-came m s l t true told = record { open_is = refl; told = told }
  sound-came m s l t false told = record { open_is = refl; told = told }

  sound-lost : (y : Loss) (s s' : Stage) (l : Option Loss) (t awaited : Bool) → (l ≡ None → t ≡ false)
      → IsSound (made a e s' w (if awaited && not (is_some l) then Some y else l) t v f)
  sound-lost y s s' None t true told = record { open_is = refl; told = λ n. cc }
  sound-lost y s s' (Some x) t true told = record { open_is = refl; told = told }
  sound-lost y s s' l t false told = record { open_is = refl; told = told }

  sound-changed : (c : Change) (s : Stage) (l : Option Loss) (t : Bool) → (l ≡ None → t ≡ false)
      → IsSound (changed c (made a e s w l t v f))
  sound-changed change.Leave s l t told = record { open_is = refl; told = told }
  sound-changed change.Sent s l t told = record { open_is = refl; told = told }
  sound-changed (change.Unsent n) stage.Queued l t told = record { open_is = refl; told = told }
  sound-changed (change.Unsent n) stage.Leaving l t told =
      sound-lost (loss.Unsent n) stage.Leaving stage.Silent l t true told
  sound-changed (change.Unsent n) stage.Awaited l t told = record { open_is = refl; told = told }
  sound-changed (change.Unsent n) stage.Ended l t told = record { open_is = refl; told = told }
  sound-changed (change.Unsent n) stage.Silent l t told = record { open_is = refl; told = told }
  sound-changed (change.Lose y) s l t told = sound-lost y s s l t (is_awaited s) told
  sound-changed change.Settle s l t told = record { open_is = refl; told = told }

sound-by : (a : Answering) (e : Bool) (v : Verdict) (f : Bool) (h : Happening) (s : Stage) (w : List Item) (l : Option Loss) (t : Bool)
    → (l ≡ None → t ≡ false) → IsSound (then_is h (made a e s w l t v f))
sound-by a e v f (Came group m) s w l t told =
    sound-came a e v f w m s l t (answers group (made a e s w l t v f)) told
sound-by a e v f (Changed c) s w l t told = sound-changed a e v f w c s l t told
sound-by a e v f Read s (x ∷ w) l t told = record { open_is = refl; told = told }
sound-by a e v f Read s [] None true told = record { open_is = refl; told = told }
sound-by a e v f Read s [] None false told = record { open_is = refl; told = told }
sound-by a e v f Read s [] (Some x) true told = record { open_is = refl; told = told }
sound-by a e v f Read s [] (Some x) false told = record { open_is = refl; told = λ n. cc }

abbrev nothing : List Item
nothing = []

no-future : (r : Request) → future r [] ≡ []
no-future r = go (is_some r.loss) r.stage
  where
    go : (b : Bool) (s : Stage) → (if b then nothing else future_at s r.answering r.echoes []) ≡ nothing
    go true s = refl
    go false stage.Queued = refl
    go false stage.Leaving = refl
    go false stage.Awaited = refl
    go false stage.Ended = refl
    go false stage.Silent = refl

-- every request with a reader is made of its fields
made-of : (r : Request) → r.is_open ≡ true
    → made r.answering r.echoes r.stage r.waiting r.loss r.is_told r.noted r.is_filtered ≡ r
made-of r is = ap (λ (b : Bool). record r { is_open = b }) (sym is)

step : (h : Happening) (hs : List Happening) (r : Request) → IsSound r
    → returned h r ++ (left (then_is h r) ++ future (then_is h r) hs) ≡ left r ++ future r (h ∷ hs)
step h hs r sound =
    subst (λ (x : Request). returned h x ++ (left (then_is h x) ++ future (then_is h x) hs) ≡ left x ++ future x (h ∷ hs))
    (made-of r sound.open_is) (step-by r.answering r.echoes r.noted r.is_filtered hs h r.stage r.waiting r.loss r.is_told sound.told)

stays-sound : (h : Happening) (r : Request) → IsSound r → IsSound (then_is h r)
stays-sound h r sound = subst (λ (x : Request). IsSound (then_is h x)) (made-of r sound.open_is)
    (sound-by r.answering r.echoes r.noted r.is_filtered h r.stage r.waiting r.loss r.is_told sound.told)

all-read : (hs : List Happening) (r : Request) → IsSound r
    → returned_by hs r ++ left (after_happenings hs r) ≡ left r ++ future r hs
all-read [] r sound = sym (append-none (left r)) ∙ ap (λ (xs : List Item). left r ++ xs) (sym (no-future r))
all-read (h ∷ hs) r sound =
    append-assoc (returned h r) (returned_by hs (then_is h r)) (left (after_happenings hs (then_is h r)))
    ∙ ap (λ (xs : List Item). returned h r ++ xs) (all-read hs (then_is h r) (stays-sound h r sound))
    ∙ step h hs r sound

pub reads-answer : (a : Answering) (e : Bool) (hs : List Happening)
    → returned_by hs (queued a e) ++ left (after_happenings hs (queued a e)) ≡ answer a e hs
reads-answer a e hs = all-read hs (queued a e) (record { open_is = refl; told = λ n. refl })

-- ---- messages of a datagram

abbrev gone : Option Request
gone = None

-- a message that came for a request that is read
open-kept : (group : ℕ) (m : Lent ℕ) (r : Request) → r.is_open ≡ true
    → after_own group m (Some r) ≡ Some (then_is (Came group m) r)
open-kept group m r is = go (answers group r)
  where
    stays : (b : Bool) → r.is_open ≡ true
        → (if b && not r.is_open then gone else Some (heard m r)) ≡ Some (heard m r)
    stays true is = rw is refl
    stays false is = refl

    go : (b : Bool) → (if b then kept (Some (heard m r)) else Some r) ≡ Some (if b then heard m r else r)
    go true = stays (is_over (heard m r).stage) is
    go false = refl

open-stays : (group : ℕ) (m : Lent ℕ) (r : Request) → r.is_open ≡ true → (then_is (Came group m) r).is_open ≡ true
open-stays group m r is = go (answers group r)
  where
    go : (b : Bool) → (if b then heard m r else r).is_open ≡ true
    go true = is
    go false = is

pub messages-happen : (port group q : ℕ) (ms : List (Lent ℕ)) (r : Request) → r.is_open ≡ true
    → after_all port group ms q (Some r) ≡ Some (after_happenings (came_for port group q ms) r)
messages-happen port group q [] r is = refl
messages-happen port group q (m ∷ ms) r is =
    go (is_own port m) (m.0.sequence_number == q)
    (ap (λ (o : Option Request). after_all port group ms q o) (open-kept group m r is)
    ∙ messages-happen port group q ms (then_is (Came group m) r) (open-stays group m r is))
    (messages-happen port group q ms r is)
  where
    go : (own mine : Bool) → after_all port group ms q (after_own group m (Some r))
        ≡ Some (after_happenings (came_for port group q ms) (then_is (Came group m) r))
        → after_all port group ms q (Some r) ≡ Some (after_happenings (came_for port group q ms) r)
        → after_all port group ms q
        (if own then (if mine then after_own group m (Some r) else Some r) else Some r)
        ≡ Some (after_happenings (if own && mine then Came group m ∷ came_for port group q ms
        else came_for port group q ms) r)
    go true true came other = came
    go true false came other = other
    go false mine came other = other
