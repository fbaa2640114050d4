-- Messages that are lent one after the other, and several passes.
use Rattle.std.proofs.Common.{◌≡◌, ◌≢◌, ◌≤◌, ◌<◌, ℕ, zero, suc, ◌+◌, ◌-◌, ℤ, Bool, true, false, if◌then◌else◌, List, []}
use Rattle.std.proofs.Common.{◌∷◌, ◌++◌, length, take, drop, slice_index_or, slice_set, Option, Some, None, Ok, Err, IfSome, IsNone, refl, sym, ap}
use Rattle.std.proofs.Common.{subst, ◌∙◌, arith}
use Rattle.std.specs.Prelude.{◌==◌}
use Rattle.std.proofs.Math.Seq.{take-add}
use Rattle.std.proofs.lemmas.List.{drop-drop, take_all, take_more_set, length-drop}
use Rattle.neli_wire.specs.declared.errors.DeError.{DeError}
use Rattle.neli_wire.specs.declared.errors.DeError.TheVariants as de
use Rattle.std.specs.declared.io.ErrorKind.TheVariants as kind
use Rattle.neli_reader.specs.SocketError.{SocketError}
use Rattle.neli_reader.specs.SocketError.TheVariants as socket
use Rattle.neli_reader.specs.NlPayload.{NlPayload}
use Rattle.neli_reader.specs.NlPayload.TheVariants as payload
use Rattle.neli_lent.specs.Messages.{message_view}
use Rattle.neli_deliveries.specs.declared.delivery.Delivery.{Delivery}
use Rattle.neli_deliveries.specs.Readings.{Item}
use Rattle.neli_log.specs.Lending.{Lends}
use Rattle.neli_log.specs.Log.{pending_of}
use Rattle.neli_log.specs.declared.log.Log.{Log}
use Rattle.neli_router.specs.Ahead.{Coming, LendsNext, Stop, after_next, at_end, at_wait, before, coming_of, item_at, lent_at}
use Rattle.neli_router.specs.Ahead.{none_coming, not_open, passed}
use Rattle.neli_router.specs.Lending.{IsErrorOf, IsLentItem, IsLentReply, LentItem}
use Rattle.neli_router.specs.declared.handle.HandleState.{HandleState}
use Rattle.neli_router.specs.declared.lending.LentError.{LentError}
use Rattle.neli_router.specs.declared.lending.LentError.TheVariants as error
use Rattle.neli_router.specs.declared.lending.LentReply.{LentReply}
use Rattle.neli_router.specs.declared.lending.LentReply.TheVariants as reply
use Rattle.neli_router.specs.declared.router.NlRouter.{NlRouter}
use Rattle.neli_c_parts.specs.declared.lending.NeliLent.{NeliLent}
use Rattle.neli_c_parts.specs.declared.session.Session.{Session}
use Rattle.neli_c_parts.specs.Ahead.{AreLent, IsLentAs, LendsFirst, Message, PassesTimes, leading_messages, message_in}
use Rattle.neli_c_parts.specs.Ahead.{is_rest, messages_at, messages_for, messages_from, messages_in, messages_of}
use Rattle.neli_c_parts.specs.Codes.{item, no_handle}
use Rattle.neli_c_parts.specs.Lending.{LendsHandle, LendsPlace, PassesHandle, Stores, lent_code}
use Rattle.neli_c_parts.specs.Sessions.{pending, socket_code}
use Rattle.neli_c_parts.specs.Walks.{refusal_code}
use Rattle.neli_c_parts.specs.Slots.{handle_at}

-- ---- the next one

-- what a reply says of the messages that come next, us before it and vs after it
abbrev pub Next : LentReply → List Message → List Message → Type 0
Next (reply.Item (Ok m)) us vs = (u : Message) × Lends (message_view m) u × (us ≡ u ∷ vs)
Next r us vs = us ≡ []

-- an error in the place of a message
from-answer : (code : ℤ) (p : NlPayload ℕ (List ℕ)) (i : Item ℕ (List ℕ)) (later : List Message) → IsErrorOf code p i
    → messages_from i later ≡ []
from-answer code (payload.Err e) i later is = ap (λ (x : Item ℕ (List ℕ)). messages_from x later) is.1
from-answer code (payload.Capped e) i later is = ap (λ (x : Item ℕ (List ℕ)). messages_from x later) is.1
from-answer code p i later is = absurd is

from-error : (e : LentError) (i : Item ℕ (List ℕ)) (later : List Message) → IsLentItem i (Err e)
    → messages_from i later ≡ []
from-error (error.Answer code m) i later is = from-answer code is.0.payload i later is.2
from-error error.NoAck i later is = ap (λ (x : Item ℕ (List ℕ)). messages_from x later) is
from-error error.UnexpectedAck i later is = ap (λ (x : Item ℕ (List ℕ)). messages_from x later) is
from-error (error.BadSeqOrPid m) i later is = ap (λ (x : Item ℕ (List ℕ)). messages_from x later) is.2
from-error (error.Socket e) i later is = ap (λ (x : Item ℕ (List ℕ)). messages_from x later) is
from-error error.ClosedChannel i later is = ap (λ (x : Item ℕ (List ℕ)). messages_from x later) is

next-from : (r : LentReply) (i : Item ℕ (List ℕ)) (later : List Message) → IsLentReply i r
    → Next r (messages_from i later) later
next-from (reply.Item (Ok m)) i later is =
    (is.0, is.1, ap (λ (x : Item ℕ (List ℕ)). messages_from x later) is.2)
next-from (reply.Item (Err e)) i later is = from-error e i later is
next-from reply.End i later is = absurd is
next-from reply.Waits i later is = absurd is

-- where none follows there is no message
none-at : (stop : Stop) → Next (lent_at stop) [] []
none-at at_end = refl
none-at at_wait = refl
none-at not_open = refl

next-by : (items : List (Item ℕ (List ℕ))) (stop : Stop) (r : LentReply)
    → LendsNext (record { items = items; stop = stop }) r
    → Next r (leading_messages items) (leading_messages (drop 1 items))
next-by [] stop r lends = subst (λ (x : LentReply). Next x [] []) (sym lends) (none-at stop)
next-by (i ∷ later) stop r lends = next-from r i (leading_messages later) lends

-- of a read ahead, a before it and b after it
pub next : (a b : Coming) (r : LentReply) → LendsNext a r → b ≡ after_next a → Next r (messages_in a) (messages_in b)
next a b r lends rest =
    subst (λ (x : Coming). Next r (messages_in a) (messages_in x)) (sym rest) (next-by a.items a.stop r lends)

-- its message, if it is one
pub message-next : (r : LentReply) (us vs : List Message) → Next r us vs
    → IfSome (message_in r) (λ m. (u : Message) × Lends (message_view m) u × (us ≡ u ∷ vs))
message-next (reply.Item (Ok m)) us vs next = next
message-next (reply.Item (Err e)) us vs next = tt
message-next reply.End us vs next = tt
message-next reply.Waits us vs next = tt

pub none-next : (r : LentReply) (us vs : List Message) → Next r us vs → IsNone (message_in r) → us ≡ []
none-next (reply.Item (Ok m)) us vs next none = absurd (let f = none in cc)
none-next (reply.Item (Err e)) us vs next none = next
none-next reply.End us vs next none = next
none-next reply.Waits us vs next none = next

-- ---- those so far

-- one more
more-lent : (us : List Message) (xs : List NeliLent) (u : Message) (x : NeliLent) → AreLent us xs → IsLentAs u x
    → AreLent (us ++ u ∷ []) (xs ++ x ∷ [])
more-lent [] [] u x are is = (is, tt)
more-lent [] (y ∷ ys) u x are is = absurd are
more-lent (v ∷ vs) [] u x are is = absurd are
more-lent (v ∷ vs) (y ∷ ys) u x are is = (are.0, more-lent vs ys u x are.1 is)

module _ {A : Type 0} where
  -- the first that is left is the next one
  take-next : (n : ℕ) (us vs : List A) (u : A) → drop n us ≡ u ∷ vs → take (n + 1) us ≡ take n us ++ u ∷ []
  take-next n us vs u is = take-add n 1 us ∙ ap (λ (ws : List A). take n us ++ take 1 ws) is

  pub drop-next : (n : ℕ) (us vs : List A) (u : A) → drop n us ≡ u ∷ vs → drop (n + 1) us ≡ vs
  drop-next n us vs u is = sym (drop-drop 1 n us) ∙ ap (drop 1) is

  -- where nothing is left, those so far are all
  pub take-rest : (n m : ℕ) (us : List A) → drop n us ≡ [] → n ≤ m → take m us ≡ take n us
  take-rest n m us is below =
      let none : length us - n ≡ 0 = sym (length-drop n us) ∙ ap length is in
      take_all m us (omega (arith, none, below)) ∙ sym (take_all n us (omega (arith, none)))

pub lent-more : (us vs : List Message) (xs : List NeliLent) (n : ℕ) (u : Message) (x : NeliLent) → n < length xs
    → drop n us ≡ u ∷ vs → AreLent (take n us) (take n xs) → IsLentAs u x
    → AreLent (take (n + 1) us) (take (n + 1) (slice_set xs n x))
lent-more us vs xs n u x below is are lent =
    subst (λ (ws : List Message). AreLent ws (take (n + 1) (slice_set xs n x))) (sym (take-next n us vs u is))
    (subst (λ (ys : List NeliLent). AreLent (take n us ++ u ∷ []) ys) (sym (take_more_set xs n x below))
    (more-lent (take n us) (take n xs) u x are lent))

-- ---- where none comes next, the single lend gives no message

-- a handle that has ended is lent none
none-after : (h : HandleState) (w : Option (List Delivery)) → h.ended ≡ true → messages_of h w ≡ []
none-after h None is = refl
none-after h (Some []) is = refl
none-after h (Some (d ∷ ds)) is =
    ap (λ (b : Bool). messages_in (if b then none_coming at_end else before (item_at h d) (coming_of (passed h d) ds))) is

-- an open one is lent the first, and then those after it
one-before : (h : HandleState) (d : Delivery) (ds : List Delivery) → h.ended ≡ false
    → messages_of h (Some (d ∷ ds)) ≡ messages_from (item_at h d) (messages_of (passed h d) (Some ds))
one-before h d ds is =
    ap (λ (b : Bool). messages_in (if b then none_coming at_end else before (item_at h d) (coming_of (passed h d) ds))) is

none-left : (n : ℕ) (us : List Message) → AreLent (take (suc n) us) [] → us ≡ []
none-left n [] are = refl
none-left n (u ∷ us) are = absurd are

-- the codes of refusals
refused-code : (e : DeError) → refusal_code e ≢ item
refused-code (de.Io kind.UnexpectedEof) = λ is. cc
refused-code (de.InvalidInput n) = λ is. cc
refused-code de.Memory = λ is. cc
refused-code e = λ is. cc

fault-code : (e : SocketError) → socket_code e ≢ item
fault-code (socket.De e) = refused-code e
fault-code (socket.Io k) = λ e. cc
fault-code socket.Memory = λ e. cc
fault-code e = λ is. cc

error-code : (e : LentError) → lent_code (Err e) ≢ item
error-code (error.Answer code m) = λ e. cc
error-code error.NoAck = λ e. cc
error-code error.UnexpectedAck = λ e. cc
error-code (error.BadSeqOrPid m) = λ e. cc
error-code (error.Socket e) = fault-code e.now
error-code error.ClosedChannel = λ e. cc

no-message : (code : ℤ) (i : Item ℕ (List ℕ)) (later : List Message) (l : LentItem) → messages_from i later ≡ []
    → IsLentItem i l → code ≡ lent_code l → code ≢ item
no-message code i later (Ok m) none is code_is = absurd (let e = sym none
    ∙ ap (λ (x : Item ℕ (List ℕ)). messages_from x later) is.2 in cc)
no-message code i later (Err e) none is code_is = λ is_item. error-code e (sym code_is ∙ is_item)

module _ (code : ℤ) (s : Session) (old new : NeliLent) where
  not-open : (h : HandleState) (w : Option (List Delivery)) → pending s h.number ≡ w → h.ended ≡ false
      → messages_of h w ≡ [] → LendsHandle code h s old new → code ≢ item
  not-open h None is open_ none lends = λ e. absurd (let f = sym (lends.1 open_ is).0 ∙ e in cc)
  not-open h (Some []) is open_ none lends = λ e. absurd (let f = sym (lends.2 open_ is).0 ∙ e in cc)
  not-open h (Some (d ∷ ds)) is open_ none lends =
      let l = lends.3 open_ d ds is in
      no-message code (item_at h d) (messages_of (passed h d) (Some ds)) l.0 (sym (one-before h d ds open_) ∙ none) l.1 l.2

  not-by : (b : Bool) (h : HandleState) → h.ended ≡ b → messages_of h (pending s h.number) ≡ []
      → LendsHandle code h s old new → code ≢ item
  not-by true h is none lends = λ e. absurd (let f = sym (lends.0 is).0 ∙ e in cc)
  not-by false h is none lends = not-open h (pending s h.number) refl is none lends

  not-for : (o : Option HandleState) → messages_for s o ≡ []
      → (o ≡ None → (code ≡ no_handle) × (new ≡ old)) × IfSome o (λ h. LendsHandle code h s old new) → code ≢ item
  not-for None none lends = λ e. absurd (let f = sym (lends.0 refl).0 ∙ e in cc)
  not-for (Some h) none lends = not-by h.ended h refl none lends.1

pub no-item : (code : ℤ) (k : ℕ) (s : Session) (old new : List NeliLent)
    → AreLent (take (length old) (messages_at k s)) [] → LendsFirst code k s old new → code ≢ item
no-item code k s [] new are first = λ e. absurd (let f = sym first.0 ∙ e in cc)
no-item code k s (x ∷ later) new are first =
    not-for code s x first.0 (handle_at k s.handles.items) (none-left (length later) (messages_at k s) are) first.1

-- ---- several passes

-- a pass changes and reads the router alone
pub passes-of : (h g : HandleState) (s s' t t' : Session) → s'.router ≡ s.router → t'.router ≡ t.router
    → PassesHandle h g s t → PassesHandle h g s' t'
passes-of h g s s' t t' same same' passes =
    subst (λ (q : NlRouter Log). PassesHandle h g s' (record t { router = q })) (sym same')
    (subst (λ (r : NlRouter Log). PassesHandle h g (record s { router = r }) t) (sym same) passes)

pub times-of : (n : ℕ) (h g : HandleState) (s s' t t' : Session) → s'.router ≡ s.router → t'.router ≡ t.router
    → PassesTimes n h g s t → PassesTimes n h g s' t'
times-of zero h g s s' t t' same same' times = (times.0, same' ∙ times.1 ∙ sym same)
times-of (suc n) h g s s' t t' same same' times = (
  times.0,
  times.1,
  passes-of h times.0 s s' times.1 times.1 same refl times.2,
  times-of n times.0 g times.1 times.1 t t' refl same' times.3,
)

-- one more
pub once-more : (n : ℕ) (h g k : HandleState) (s t u : Session) → PassesTimes n h g s t → PassesHandle g k t u
    → PassesTimes (n + 1) h k s u
once-more zero h g k s t u times passes = (
  k,
  u,
  subst (λ (x : HandleState). PassesHandle x k s u) times.0 (passes-of g k t s u u (sym times.1) refl passes),
  (refl, refl),
)
once-more (suc n) h g k s t u times passes =
    let same : suc (n + 1) ≡ suc n + 1 = omega arith in
    subst (λ (m : ℕ). PassesTimes m h k s u) same
    (times.0, times.1, times.2, once-more n times.0 g k times.1 t u times.3 passes)

-- ---- passes where nothing comes next

module _ (h : HandleState) (s : Session) where
  -- where an open handle has a list, and it is empty, a pass changes nothing
  stays-where : (h.ended ≡ false → pending s h.number ≡ None → ⊥)
      → (h.ended ≡ false → (d : Delivery) (ds : List Delivery) → pending s h.number ≡ Some (d ∷ ds) → ⊥)
      → PassesHandle h h s s
  stays-where listed empty = (
    λ _. (refl, refl),
    λ open_ none. absurd (listed open_ none),
    λ _ none. (refl, refl),
    λ open_ d ds some. absurd (empty open_ d ds some),
    record {
      port = refl;
      next_seq = refl;
      missed = refl;
      lists = λ w other. refl;
      heard = λ w other. refl;
    },
    refl,
  )

  stays-ended : h.ended ≡ true → PassesHandle h h s s
  stays-ended ended =
      stays-where (λ open_ none. (let f = sym ended ∙ open_ in cc))
      (λ open_ d ds some. (let f = sym ended ∙ open_ in cc))

  stays-empty : pending s h.number ≡ Some [] → PassesHandle h h s s
  stays-empty empty =
      stays-where (λ open_ none. (let f = sym none ∙ empty in cc))
      (λ open_ d ds some. (let f = sym some ∙ empty in cc))

  no-rest : (r : LentReply) (i : Item ℕ (List ℕ)) → is_rest r ≡ true → IsLentReply i r → PassesHandle h h s s
  no-rest (reply.Item l) i rest lends = absurd cc
  no-rest reply.End i rest lends = absurd lends
  no-rest reply.Waits i rest lends = absurd lends

  stays-open : (r : LentReply) (w : Option (List Delivery)) → pending s h.number ≡ w → is_rest r ≡ true
      → (pending s h.number ≡ None → r ≡ reply.Item (Err error.ClosedChannel))
      → ((d : Delivery) (ds : List Delivery) → pending s h.number ≡ Some (d ∷ ds) → IsLentReply (item_at h d) r)
      → PassesHandle h h s s
  stays-open r None is rest closed lends = absurd (let f = sym (ap is_rest (closed is)) ∙ rest in cc)
  stays-open r (Some []) is rest closed lends = stays-empty is
  stays-open r (Some (d ∷ ds)) is rest closed lends = no-rest r (item_at h d) rest (lends d ds is)

  -- a pass changes nothing where nothing comes next
  pub stays-by : (r : LentReply) (b : Bool) → h.ended ≡ b → is_rest r ≡ true
      → (h.ended ≡ false → pending s h.number ≡ None → r ≡ reply.Item (Err error.ClosedChannel))
      → (h.ended ≡ false → (d : Delivery) (ds : List Delivery) → pending s h.number ≡ Some (d ∷ ds)
      → IsLentReply (item_at h d) r) → PassesHandle h h s s
  stays-by r true is rest closed lends = stays-ended is
  stays-by r false is rest closed lends = stays-open r (pending s h.number) refl rest (closed is) (lends is)

rest-times : (n : ℕ) (h : HandleState) (s : Session) → PassesHandle h h s s → PassesTimes n h h s s
rest-times zero h s stays = (refl, refl)
rest-times (suc n) h s stays = (h, s, stays, rest-times n h s stays)

times-more : (n m : ℕ) (h g : HandleState) (s t : Session) → PassesTimes n h g s t → PassesHandle g g t t
    → PassesTimes (n + m) h g s t
times-more zero m h g s t times stays =
    let same : m ≡ zero + m = omega arith in
    subst (λ (k : ℕ). PassesTimes k h g s t) same
    (subst (λ (x : HandleState). PassesTimes m x g s t) times.0
    (times-of m g g t s t t (sym times.1) refl (rest-times m g t stays)))
times-more (suc n) m h g s t times stays =
    let same : suc (n + m) ≡ suc n + m = omega arith in
    subst (λ (k : ℕ). PassesTimes k h g s t) same
    (times.0, times.1, times.2, times-more n m times.0 g times.1 t times.3 stays)

-- and so the passes that are left
pub times-left : (n all : ℕ) (h g : HandleState) (s t : Session) → n < all → PassesTimes n h g s t
    → PassesHandle g g t t → PassesTimes all h g s t
times-left n all h g s t few times stays =
    let whole : n + (all - n) ≡ all = omega (arith, few) in
    subst (λ (k : ℕ). PassesTimes k h g s t) whole (times-more n (all - n) h g s t times stays)

-- ---- several are what single lends give, once those before them are passed

-- the message that comes first
first-ahead : (i : Item ℕ (List ℕ)) (later us : List Message) (u : Message) → messages_from i later ≡ u ∷ us
    → (i ≡ Ok u) × (later ≡ us)
first-ahead (Ok v) later us u is = (cc, cc)
first-ahead (Err e) later us u is = absurd (let f = is in cc)

module _ (h : HandleState) (s t : Session) (u : Message) (us : List Message) where
  pass-open : (g : HandleState) (w : Option (List Delivery)) → pending s h.number ≡ w → h.ended ≡ false
      → messages_of h w ≡ u ∷ us → PassesHandle h g s t → messages_of g (pending t g.number) ≡ us
  pass-open g None is open_ some passes = absurd (let f = some in cc)
  pass-open g (Some []) is open_ some passes = absurd (let f = some in cc)
  pass-open g (Some (d ∷ ds)) is open_ some passes =
      let p = passes.3 open_ d ds is in
      let first = first-ahead (item_at h d) (messages_of (passed h d) (Some ds)) us u (sym (one-before h d ds open_) ∙ some) in
      let number : g.number ≡ h.number = ap (λ (x : HandleState). x.number) p.handle in
      ap (λ (x : HandleState). messages_of x (pending t g.number)) p.handle
      ∙ ap (messages_of (passed h d)) (ap (pending t) number ∙ p.waits) ∙ first.1

  pass-by : (g : HandleState) (b : Bool) → h.ended ≡ b → messages_of h (pending s h.number) ≡ u ∷ us
      → PassesHandle h g s t → messages_of g (pending t g.number) ≡ us
  pass-by g true is some passes = absurd (let f = sym (none-after h (pending s h.number) is) ∙ some in cc)
  pass-by g false is some passes = pass-open g (pending s h.number) refl is some passes

-- the message that a single lend stores
lent-as : (code : ℤ) (i : Item ℕ (List ℕ)) (l : LentItem) (later us : List Message) (u : Message) (old new : NeliLent)
    → messages_from i later ≡ u ∷ us → IsLentItem i l → code ≡ lent_code l → Stores l old new
    → (code ≡ item) × IsLentAs u new
lent-as code i (Ok m) later us u old new some is code_is stored =
    let same : is.0 ≡ u = (let f = sym is.2 ∙ (first-ahead i later us u some).0 in cc) in
    (code_is, (m, subst (λ (v : Message). Lends (message_view m) v) same is.1, stored))
lent-as code i (Err e) later us u old new some is code_is stored =
    absurd (let f = sym (from-error e i later is) ∙ some in cc)

module _ (code : ℤ) (h : HandleState) (s : Session) (old new : NeliLent) (u : Message) (us : List Message) where
  lent-open : (w : Option (List Delivery)) → pending s h.number ≡ w → h.ended ≡ false → messages_of h w ≡ u ∷ us
      → LendsHandle code h s old new → (code ≡ item) × IsLentAs u new
  lent-open None is open_ some lends = absurd (let f = some in cc)
  lent-open (Some []) is open_ some lends = absurd (let f = some in cc)
  lent-open (Some (d ∷ ds)) is open_ some lends =
      let l = lends.3 open_ d ds is in
      lent-as code (item_at h d) l.0 (messages_of (passed h d) (Some ds)) us u old new
      (sym (one-before h d ds open_) ∙ some) l.1 l.2 l.3

  lent-by : (b : Bool) → h.ended ≡ b → messages_of h (pending s h.number) ≡ u ∷ us → LendsHandle code h s old new
      → (code ≡ item) × IsLentAs u new
  lent-by true is some lends = absurd (let f = sym (none-after h (pending s h.number) is) ∙ some in cc)
  lent-by false is some lends = lent-open (pending s h.number) refl is some lends

pub lent-after : (n : ℕ) (h g : HandleState) (s t : Session) (us later : List Message) (u : Message) (code : ℤ)
    (old new : NeliLent) → messages_of h (pending s h.number) ≡ us → drop n us ≡ u ∷ later → PassesTimes n h g s t
    → LendsHandle code g t old new → (code ≡ item) × IsLentAs u new
lent-after zero h g s t us later u code old new all next times lends =
    let same : messages_of g (pending t g.number) ≡ messages_of h (pending s h.number) =
    ap (λ (x : HandleState). messages_of x (pending t x.number)) times.0
    ∙ ap (λ (r : NlRouter Log). messages_of h (pending_of r.deliveries h.number)) times.1 in
    lent-by code g t old new u later g.ended refl (same ∙ all ∙ next) lends
lent-after (suc n) h g s t [] later u code old new all next times lends = absurd (let f = next in cc)
lent-after (suc n) h g s t (v ∷ vs) later u code old new all next times lends =
    lent-after n times.0 g times.1 t vs later u code old new
    (pass-by h s times.1 v vs times.0 h.ended refl all times.2) next times.3 lends

-- a single lend into the first place
pub first-stored : (code : ℤ) (k : ℕ) (s : Session) (xs : List NeliLent) (d y : NeliLent) → false ≡ (length xs == 0)
    → LendsPlace code k s (slice_index_or xs 0 d) y → LendsFirst code k s xs (slice_set xs 0 y)
first-stored code k s [] d y some lends = absurd (let f = some in cc)
first-stored code k s (x ∷ later) d y some lends = (y, lends, refl)
