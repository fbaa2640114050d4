-- One read, from what the router's call says of it.
use Rattle.std.proofs.Common.{◌≡◌, ◌≢◌, ℕ, Bool, true, false, List, [], ◌∷◌, Option, Some, None, Result, Ok, Err}
use Rattle.std.proofs.Common.{refl, sym, ap, ◌∙◌, inl, inr, ◌⊎◌, subst}
use Rattle.std.specs.Prelude.{if◌then◌else◌}
use Rattle.neli_wire.specs.declared.errors.DeError.{DeError}
use Rattle.neli_reader.specs.Framed.{Nlmsghdr}
use Rattle.neli_reader.specs.NlPayload.{NlPayload}
use Rattle.neli_reader.specs.NlPayload.TheVariants as payload
use Rattle.neli_reader.specs.RouterError.TheVariants as router
use Rattle.neli_deliveries.specs.declared.delivery.Delivery.{Delivery}
use Rattle.neli_deliveries.specs.declared.delivery.Delivery.TheVariants as delivery
use Rattle.neli_deliveries.specs.Readings.{IsReading, Item}
use Rattle.neli_router.specs.declared.handle.HandleState.{HandleState}
use Rattle.neli_router.specs.declared.reply.Reply.{Reply}
use Rattle.neli_router.specs.declared.reply.Reply.TheVariants as reply
use Rattle.neli_router.specs.declared.router.NlRouter.{NlRouter}
use Rattle.neli_router.specs.declared.verdict.Heard.{Heard}
use Rattle.neli_router.specs.Reads.{IsNextRead, handle_after, item_for, known_after}
use Rattle.neli_router.specs.Rule.{ends_at, has_number, item_of, last_item, last_item_of_payload}
use Rattle.neli_router.specs.laws.Places.{true_or_false}
use Rattle.neli_short_router.specs.Next.{next_of}
use Rattle.neli_short_router.specs.Reads.{Gives, IsRead, LeavesRest, Stand, stand_after, standing}

-- ---- items

module _ {K P : Type 0} (needs after : Bool) where
  -- no item says that memory ran out, unless its delivery was read so
  payload_has_memory : (m : Nlmsghdr K P) (p : NlPayload K P)
      → last_item_of_payload needs after m p ≢ Err router.Memory
  payload_has_memory m (payload.Ack e) = elim needs as (λ b. last_item_of_payload b after m (payload.Ack e) ≢ Err router.Memory)
      [ true ↦ (λ h. cc) | false ↦ (λ h. cc) ]
  payload_has_memory m (payload.Err e) = elim after as (λ b. last_item_of_payload needs b m (payload.Err e) ≢ Err router.Memory)
      [ true ↦ (λ h. cc) | false ↦ (λ h. cc) ]
  payload_has_memory m (payload.Capped e) = elim after as (λ b. last_item_of_payload needs b m (payload.Capped e) ≢ Err router.Memory)
      [ true ↦ (λ h. cc) | false ↦ (λ h. cc) ]
  payload_has_memory m (payload.Payload e) = elim after as (λ b. last_item_of_payload needs b m (payload.Payload e) ≢ Err router.Memory)
      [ true ↦ (λ h. cc) | false ↦ (λ h. cc) ]
  payload_has_memory m (payload.DumpExtAck e) = elim after as (λ b. last_item_of_payload needs b m (payload.DumpExtAck e) ≢ Err router.Memory)
      [ true ↦ (λ h. cc) | false ↦ (λ h. cc) ]
  payload_has_memory m payload.Empty = elim after as (λ b. last_item_of_payload needs b m payload.Empty ≢ Err router.Memory)
      [ true ↦ (λ h. cc) | false ↦ (λ h. cc) ]

  last_has_memory : (x : Item K P) → x ≢ Err router.Memory → last_item needs after x ≢ Err router.Memory
  last_has_memory (Ok m) not = payload_has_memory m m.payload
  last_has_memory (Err e) not = not

  pub item_has_memory : (number_of : K → ℕ) (numbered : Bool) (x : Item K P) → x ≢ Err router.Memory
      → item_of number_of needs numbered after x ≢ Err router.Memory
  item_has_memory number_of numbered x not = elim (ends_at number_of needs numbered after x) as
      (λ b. (if b then last_item needs after x else x) ≢ Err router.Memory)
      [ true ↦ last_has_memory x not | false ↦ not ]

module _ {K P V : Type 0} (type_of : ℕ → K) (view : P → V) (size : P → ℕ) (read : List ℕ → Result V DeError) where
  -- nor was any
  pub reading_has_memory : (d : Delivery) (x : Item K P) → IsReading type_of view size read d x → x ≢ Err router.Memory
  reading_has_memory (delivery.Message u) (Ok m) is h = cc
  reading_has_memory (delivery.Message u) (Err e) is h = is.1 (let same : e ≡ router.Memory = cc in same)
  reading_has_memory (delivery.Stray u) (Ok m) is h = absurd is
  reading_has_memory (delivery.Stray u) (Err (router.BadSeqOrPid m)) is h = cc
  reading_has_memory (delivery.Stray u) (Err (router.Msg m)) is h = cc
  reading_has_memory (delivery.Stray u) (Err (router.Io m)) is h = cc
  reading_has_memory (delivery.Stray u) (Err (router.De m)) is h = cc
  reading_has_memory (delivery.Stray u) (Err (router.Socket m)) is h = cc
  reading_has_memory (delivery.Stray u) (Err (router.Nlmsgerr m)) is h = cc
  reading_has_memory (delivery.Stray u) (Err (router.Capped m)) is h = cc
  reading_has_memory (delivery.Stray u) (Err router.NoAck) is h = cc
  reading_has_memory (delivery.Stray u) (Err router.UnexpectedAck) is h = cc
  reading_has_memory (delivery.Stray u) (Err router.ClosedChannel) is h = cc
  reading_has_memory (delivery.Stray u) (Err (router.SeqInUse m)) is h = cc
  reading_has_memory (delivery.Stray u) (Err router.Memory) is h = is.1 refl
  reading_has_memory (delivery.Fault e) x is h = (let same : Err (router.Socket e) ≡ Err router.Memory = sym is ∙ h in cc)

-- ---- reads

-- where the same stands in each field, reading stands so
same_stand : (t u : Stand) → t.handle ≡ u.handle → t.waits ≡ u.waits → t.heard ≡ u.heard → t ≡ u
same_stand t u a b c =
    ap (λ (h : HandleState). record { handle = h; waits = t.waits; heard = t.heard }) a
    ∙ (ap (λ (w : Option (List Delivery)). record { handle = u.handle; waits = w; heard = t.heard }) b
    ∙ ap (λ (k : Option Heard). record { handle = u.handle; waits = u.waits; heard = k }) c)

inner : {K P : Type 0} {x y : Item K P} → reply.Item x ≡ reply.Item y → x ≡ y
inner e = cc

module _ {K P V : Type 0} (type_of : ℕ → K) (number_of : K → ℕ) (view : P → V) (size : P → ℕ) (read : List ℕ
    → Result V DeError) (s t : Stand) (x : Item K P) where
  -- the item by the first delivery, and reading then
  abbrev pub Given : Delivery → List Delivery → Type 0
  Given d ds =
      (item : Item K P) × IsReading type_of view size read d item
      × (reply.Item x ≡ reply.Item (item_for number_of s.handle item))
      × (t.waits ≡ Some ds) × (t.handle ≡ handle_after number_of s.handle item)
      × (t.heard ≡ known_after number_of s.handle d item s.heard)

  by_first : (d : Delivery) (ds : List Delivery) → Given d ds
      → Gives type_of number_of view size read s.handle (Some (d ∷ ds)) s.heard x t
  by_first d ds given = (
    given.0,
    given.1,
    inner given.2,
    same_stand t (stand_after number_of s.handle d ds s.heard given.0) given.4 given.3 given.5,
  )

  by_waits : (waits : Option (List Delivery)) → s.waits ≡ waits
      → (s.waits ≡ None → (reply.Item x ≡ reply.Item (Err router.ClosedChannel))
      × (t.handle ≡ record s.handle { ended = true }) × (t.waits ≡ None) × (t.heard ≡ s.heard))
      → (s.waits ≡ Some [] → reply.Item x ≡ reply.Waits)
      → ((d : Delivery) (ds : List Delivery) → s.waits ≡ Some (d ∷ ds) → Given d ds)
      → Gives type_of number_of view size read s.handle waits s.heard x t
  by_waits None same closed none gives =
      let c = closed same in (
        inner c.0,
        same_stand t (record { handle = record s.handle { ended = true }; waits = None; heard = s.heard })
            c.1 c.2 c.3,
      )
  by_waits (Some []) same closed none gives = absurd (let bad = none same in cc)
  by_waits (Some (d ∷ ds)) same closed none gives = by_first d ds (gives d ds same)

  number_by : (waits : Option (List Delivery)) → s.waits ≡ waits
      → (s.waits ≡ None → (reply.Item x ≡ reply.Item (Err router.ClosedChannel))
      × (t.handle ≡ record s.handle { ended = true }) × (t.waits ≡ None) × (t.heard ≡ s.heard))
      → (s.waits ≡ Some [] → reply.Item x ≡ reply.Waits)
      → ((d : Delivery) (ds : List Delivery) → s.waits ≡ Some (d ∷ ds) → Given d ds)
      → t.handle.number ≡ s.handle.number
  number_by None same closed none gives = ap (λ (h : HandleState). h.number) (closed same).1
  number_by (Some []) same closed none gives = absurd (let bad = none same in cc)
  number_by (Some (d ∷ ds)) same closed none gives = ap (λ (h : HandleState). h.number) (gives d ds same).4

module _ {K P V : Type 0} (type_of : ℕ → K) (number_of : K → ℕ) (view : P → V) (size : P → ℕ) (read : List ℕ
    → Result V DeError) where
  -- a read by what the call says of it: the item, and that the number stays
  pub read_is : (h h' : HandleState) (pending pending' : Option ℕ → Option (List Delivery))
      (heard heard' : Option ℕ → Option Heard) (x : Item K P) → (h.ended ≡ true → reply.Item x ≡ reply.End)
      → (h.ended ≡ false → pending h.number ≡ None → (reply.Item x ≡ reply.Item (Err router.ClosedChannel))
      × (h' ≡ record h { ended = true }) × (pending' h.number ≡ None) × (heard' h.number ≡ heard h.number))
      → (h.ended ≡ false → pending h.number ≡ Some [] → reply.Item x ≡ reply.Waits)
      → (h.ended ≡ false → (d : Delivery) (ds : List Delivery) → pending h.number ≡ Some (d ∷ ds)
      → Given type_of number_of view size read (standing h pending heard)
      (record { handle = h'; waits = pending' h.number; heard = heard' h.number }) x d ds)
      → IsRead type_of number_of view size read (standing h pending heard) x (standing h' pending' heard')
      × (h'.number ≡ h.number)
  read_is h h' pending pending' heard heard' x ended closed none gives = elim (true_or_false h.ended) [
    | inl e ↦ absurd (let bad = ended e in cc)
    | inr e ↦
        (let s = standing h pending heard in
        let t : Stand = record { handle = h'; waits = pending' h.number; heard = heard' h.number } in
        let number : h'.number ≡ h.number =
        number_by type_of number_of view size read s t x (pending h.number) refl (closed e) (none e) (gives e) in (
          (
            e,
            subst (λ (n : Option ℕ). Gives type_of number_of view size read h (pending h.number) (heard h.number) x
                (record { handle = h'; waits = pending' n; heard = heard' n })) (sym number)
                (by_waits type_of number_of view size read s t x (pending h.number) refl (closed e) (none e) (gives e)),
          ),
          number,
        ))
  ]

  memory_by : (h : HandleState) (waits there : Option (List Delivery)) (x : Item K P) → waits ≡ there
      → (waits ≡ None → reply.Item x ≡ reply.Item (Err router.ClosedChannel))
      → (waits ≡ Some [] → reply.Item x ≡ reply.Waits)
      → ((d : Delivery) (ds : List Delivery) → waits ≡ Some (d ∷ ds) → (item : Item K P)
      × IsReading type_of view size read d item
      × (reply.Item x ≡ reply.Item (item_of number_of h.needs_ack (has_number h.number) h.single_given item)))
      → x ≢ Err router.Memory
  memory_by h waits None x same closed none gives = λ bad. (let c = closed same in cc)
  memory_by h waits (Some []) x same closed none gives = λ bad. (let c = none same in cc)
  memory_by h waits (Some (d ∷ ds)) x same closed none gives =
      let k = gives d ds same in
      λ bad. item_has_memory h.needs_ack h.single_given number_of (has_number h.number) k.0
      (reading_has_memory type_of view size read d k.0 k.1) (sym (inner k.2) ∙ bad)

  -- no item says that memory ran out
  pub no_memory_item : (h : HandleState) (waits : Option (List Delivery)) (x : Item K P)
      → (h.ended ≡ true → reply.Item x ≡ reply.End)
      → (h.ended ≡ false → waits ≡ None → reply.Item x ≡ reply.Item (Err router.ClosedChannel))
      → (h.ended ≡ false → waits ≡ Some [] → reply.Item x ≡ reply.Waits)
      → (h.ended ≡ false → (d : Delivery) (ds : List Delivery) → waits ≡ Some (d ∷ ds) → (item : Item K P)
      × IsReading type_of view size read d item
      × (reply.Item x ≡ reply.Item (item_of number_of h.needs_ack (has_number h.number) h.single_given item)))
      → x ≢ Err router.Memory
  no_memory_item h waits x ended closed none gives = elim (true_or_false h.ended) [
    | inl e ↦ (λ bad. (let k = ended e in cc))
    | inr e ↦ memory_by h waits waits x refl (closed e) (none e) (gives e)
  ]

-- ---- where there is no item

module _ {K P : Type 0} (r : Reply K P) (Same : Type 0) (not : (x : Item K P) → r ≡ reply.Item x → ⊥) where
  none_by : (waits there : Option (List Delivery)) → waits ≡ there
      → (waits ≡ None → (x : Item K P) × (r ≡ reply.Item x)) → (waits ≡ Some [] → Same)
      → ((d : Delivery) (ds : List Delivery) → waits ≡ Some (d ∷ ds) → (x : Item K P) × (r ≡ reply.Item x))
      → Same × (waits ≡ Some [])
  none_by waits None same closed none gives = absurd (not (closed same).0 (closed same).1)
  none_by waits (Some []) same closed none gives = (none same, same)
  none_by waits (Some (d ∷ ds)) same closed none gives = absurd (not (gives d ds same).0 (gives d ds same).1)

  pub none_is : (h : HandleState) (waits : Option (List Delivery)) → (h.ended ≡ true → Same)
      → (h.ended ≡ false → waits ≡ None → (x : Item K P) × (r ≡ reply.Item x))
      → (h.ended ≡ false → waits ≡ Some [] → Same)
      → (h.ended ≡ false → (d : Delivery) (ds : List Delivery) → waits ≡ Some (d ∷ ds)
      → (x : Item K P) × (r ≡ reply.Item x))
      → Same × ((h.ended ≡ true) ⊎ (waits ≡ Some []))
  none_is h waits ended closed none gives = elim (true_or_false h.ended) [
    | inl e ↦ (ended e, inl e)
    | inr e ↦ (let k = none_by waits waits refl (closed e) (none e) (gives e) in (k.0, inr k.1))
  ]

-- a read of the next item whose result is an item, as one `Result`
module _ {K P V D : Type 0} (type_of : ℕ → K) (number_of : K → ℕ) (view : P → V) (size : P → ℕ) (read : List ℕ
    → Result V DeError) (pending : D → Option ℕ → Option (List Delivery)) (d : Delivery) (ds : List Delivery)
    (h h' : HandleState) (before after : NlRouter D) where
  pub next_given : (r : Reply K P) (x y : Item K P) → r ≡ reply.Item x → x ≡ y
      → IsNextRead type_of number_of view size read pending d ds h h' before after (λ i. reply.Item i) r
      → IsNextRead type_of number_of view size read pending d ds h h' before after (λ i. next_of i) (next_of y)
  next_given r x y is same k = record {
    x = k.x;
    is_read = k.is_read;
    is_given = ap (λ (i : Item K P). next_of i) (sym same ∙ inner (sym is ∙ k.is_given));
    goes = k.goes;
  }

pub ok_same : {A E : Type 0} {x y : A} → ◌≡◌ {A = Result A E} (Ok x) (Ok y) → x ≡ y
ok_same e = cc

pub err_same : {A E : Type 0} {x y : E} → ◌≡◌ {A = Result A E} (Err x) (Err y) → x ≡ y
err_same e = cc

-- what two reads leave, one after the other
module _ {D A : Type 0} (port_of : D → ℕ) (pending : D → Option ℕ → A) where
  pub rest_on : (h t u : HandleState) (r s v : NlRouter D) → LeavesRest port_of pending h t r s
      → LeavesRest port_of pending t u s v → LeavesRest port_of pending h u r v
  rest_on h t u r s v a b = (
    b.0 ∙ a.0,
    b.1 ∙ a.1,
    record {
      port = b.2.port ∙ a.2.port;
      next_seq = b.2.next_seq ∙ a.2.next_seq;
      missed = b.2.missed ∙ a.2.missed;
      lists = λ w not. b.2.lists w (λ e. not (e ∙ a.0)) ∙ a.2.lists w not;
      heard = λ w not. b.2.heard w (λ e. not (e ∙ a.0)) ∙ a.2.heard w not;
    },
  )
