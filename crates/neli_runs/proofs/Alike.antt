-- Histories in which the same requests were sent and the same handles closed, and the same outcomes right after them.
use Rattle.std.proofs.Common.{ℕ, zero, suc, ◌≡◌, ◌↔◌, Bool, true, false, ◌&&◌, All, List, [], ◌∷◌, ◌++◌, Option, Some}
use Rattle.std.proofs.Common.{None, Result, refl, sym, ap, subst, ◌∙◌, arith}
use Rattle.std.specs.Prelude.{◌==◌}
use Rattle.std.proofs.lemmas.Bool.Decides.{nat_tests}
use Rattle.std.proofs.lemmas.List.Elements.{All-head, All-tail}
use Rattle.neli_wire.specs.declared.errors.DeError.{DeError}
use Rattle.neli_wire.specs.Writing.{Wire}
use Rattle.neli_reader.specs.Agreement.{untyped_layout}
use Rattle.neli_reader.specs.Cuts.{Cut, cut_of}
use Rattle.neli_deliveries.specs.Deliveries.{Untyped, messages_to, reader_fault, datagram_share}
use Rattle.neli_router.specs.Sends.{frame_or_refusal}
use Rattle.neli_runs.specs.declared.command.Command.{Command}
use Rattle.neli_runs.specs.declared.command.Command.TheVariants as command
use Rattle.neli_runs.specs.declared.command.Outcome.{Outcome}
use Rattle.neli_runs.specs.Deliveries.{deliveries, handed_over}
use Rattle.neli_runs.specs.History.{Event, History, any_upto, last_set_number, is_closed, is_handle_open, is_open}
use Rattle.neli_runs.specs.History.{items_of, needs_of, next_number, number_of, reads, requests_sent}
use Rattle.neli_runs.specs.History.{requests_since_set, list_of_handle, with_item}
use Rattle.neli_runs.specs.Outcomes.{EachAfter, IsAnswered, IsNextAnswer, IsReadOf, IsSending, IsSent, closed_or_not}
use Rattle.neli_runs.specs.Outcomes.{is_numbered}
use Rattle.neli_runs.specs.laws.Deliveries.{deliveries-more}

-- the same where the same numbers are open
pub received_same : (port : ℕ) (test test' : ℕ → Bool) → ((n : ℕ) → test n ≡ test' n)
    → (w : Option ℕ) (cut : Cut Untyped) (groups : List ℕ)
    → datagram_share port test w cut groups ≡ datagram_share port test' w cut groups
received_same port test test' same None cut [] = refl
received_same port test test' same None cut (g ∷ groups) = refl
received_same port test test' same (Some q) cut [] = ap (λ ds. ds ++ reader_fault cut.1) (each cut.0)
  where
    each : (ms : List Untyped) → messages_to port test q ms ≡ messages_to port test' q ms
    each [] = refl
    each (m ∷ ms) = rw (same m.0.sequence_number, each ms) refl
received_same port test test' same (Some q) cut (g ∷ groups) = refl

any_same : (n : ℕ) (p q : ℕ → Bool) → ((k : ℕ) → p k ≡ q k) → any_upto n p ≡ any_upto n q
any_same zero p q same = refl
any_same (suc n) p q same = rw (same (suc n), any_same n p q same) refl

-- ---- histories in which the same requests were sent and the same handles closed

module _ {ST SP RT RP : Type 0} where
  pub record IsAlike (h h' : History ST SP RT RP) : Type 0 where
    pub sent : requests_sent h ≡ requests_sent h'
    pub set : last_set_number h ≡ last_set_number h'
    pub counted : requests_since_set h ≡ requests_since_set h'
    pub numbers : (k : ℕ) → number_of k h ≡ number_of k h'
    pub needs : (k : ℕ) → needs_of k h ≡ needs_of k h'
    pub closed : (k : ℕ) → is_closed k h ≡ is_closed k h'

  pub alike-self : (h : History ST SP RT RP) → IsAlike h h
  alike-self h = record {
    sent = refl;
    set = refl;
    counted = refl;
    numbers = λ k. refl;
    needs = λ k. refl;
    closed = λ k. refl;
  }

  pub alike-back : (h h' : History ST SP RT RP) → IsAlike h h' → IsAlike h' h
  alike-back h h' a = record {
    sent = sym a.sent;
    set = sym a.set;
    counted = sym a.counted;
    numbers = λ k. sym (a.numbers k);
    needs = λ k. sym (a.needs k);
    closed = λ k. sym (a.closed k);
  }

  pub alike-both : (h h' h'' : History ST SP RT RP) → IsAlike h h' → IsAlike h' h'' → IsAlike h h''
  alike-both h h' h'' a b = record {
    sent = a.sent ∙ b.sent;
    set = a.set ∙ b.set;
    counted = a.counted ∙ b.counted;
    numbers = λ k. a.numbers k ∙ b.numbers k;
    needs = λ k. a.needs k ∙ b.needs k;
    closed = λ k. a.closed k
        ∙ b.closed k;
  }

  alike-more : (e : Event ST SP RT RP) (h h' : History ST SP RT RP) → IsAlike h h' → IsAlike (e ∷ h) (e ∷ h')
  alike-more e h h' a = record {
    sent = rw a.sent refl;
    set = rw a.set refl;
    counted = rw a.counted refl;
    numbers = λ k. rw (a.sent, a.set, a.counted, a.numbers k) refl;
    needs = λ k. rw (a.sent, a.needs k) refl;
    closed = λ k. rw (a.closed k) refl;
  }

  pub alike-after : (later h h' : History ST SP RT RP) → IsAlike h h' → IsAlike (later ++ h) (later ++ h')
  alike-after [] h h' a = a
  alike-after (e ∷ later) h h' a = alike-more e (later ++ h) (later ++ h') (alike-after later h h' a)

  pub alike_live : (k : ℕ) (h h' : History ST SP RT RP) → IsAlike h h' → is_handle_open k h ≡ is_handle_open k h'
  alike_live k h h' a = rw (a.sent, a.closed k) refl

  pub alike_whose : (k : ℕ) (h h' : History ST SP RT RP) → IsAlike h h' → list_of_handle k h ≡ list_of_handle k h'
  alike_whose zero h h' a = refl
  alike_whose (suc k) h h' a = ap Some (a.numbers (suc k))

  pub alike_open : (q : ℕ) (h h' : History ST SP RT RP) → IsAlike h h' → is_open q h ≡ is_open q h'
  alike_open q h h' a =
      ap (λ n. any_upto n (λ k. is_handle_open k h && (number_of k h == q))) a.sent
      ∙ any_same (requests_sent h') (λ k. is_handle_open k h && (number_of k h == q))
      (λ k. is_handle_open k h' && (number_of k h' == q)) (λ k. rw (alike_live k h h' a, a.numbers k) refl)

  -- a handle gets the same from each command
  gain-same : (port k : ℕ) (c : Command ST SP) (h h' : History ST SP RT RP) → IsAlike h h'
      → handed_over port k c h ≡ handed_over port k c h'
  gain-same port k (command.Datagram b groups) h h' a =
      rw (alike_whose k h h' a) (received_same port (λ q. is_open q h) (λ q. is_open q h') (λ q. alike_open q h h' a)
      (list_of_handle k h') (cut_of untyped_layout b.items) groups)
  gain-same port k (command.Fault e) h h' a = rw (alike_whose k h h' a) refl
  gain-same port k (command.SetNextSeq n) h h' a = refl
  gain-same port k (command.Send t f p) h h' a = refl
  gain-same port k (command.Read j) h h' a = refl
  gain-same port k (command.Close j) h h' a = refl

  pub deliveries-after : (port k : ℕ) (later h h' : History ST SP RT RP) → IsAlike h h'
      → deliveries port k h ≡ deliveries port k h' → deliveries port k (later ++ h) ≡ deliveries port k (later ++ h')
  deliveries-after port k [] h h' a same = same
  deliveries-after port k (e ∷ later) h h' a same =
      let after = alike-after later h h' a in
      deliveries-more port k e (later ++ h)
      ∙ rw (
        deliveries-after port k later h h' a same,
        alike_live k (later ++ h) (later ++ h') after,
        gain-same port k e.0 (later ++ h) (later ++ h') after,
      ) refl
      ∙ sym (deliveries-more port k e (later ++ h'))

  -- ---- histories after which the same outcomes are right

  -- they are alike, and each handle that passes got the same deliveries and the same items
  pub record IsSameFor (port : ℕ) (Passes : ℕ → Type 0) (h h' : History ST SP RT RP) : Type 0 where
    pub alike : IsAlike h h'
    pub delivered : (k : ℕ) → Passes k → deliveries port k h ≡ deliveries port k h'
    pub given : (k : ℕ) → Passes k → items_of k h ≡ items_of k h'

  module _ (port : ℕ) (Passes : ℕ → Type 0) where
    pub same-back : (h h' : History ST SP RT RP) → IsSameFor port Passes h h' → IsSameFor port Passes h' h
    same-back h h' s = record {
      alike = alike-back h h' s.alike;
      delivered = λ k p. sym (s.delivered k p);
      given = λ k p. sym (s.given k p);
    }

    same-more : (e : Event ST SP RT RP) (h h' : History ST SP RT RP) → IsSameFor port Passes h h'
        → IsSameFor port Passes (e ∷ h) (e ∷ h')
    same-more e h h' s = record {
      alike = alike-more e h h' s.alike;
      delivered = λ k p. deliveries-after port k (e ∷ []) h h' s.alike (s.delivered k p);
      given = λ k p. ap (with_item e.1 (reads k e.0)) (s.given k p);
    }

    pub same-after : (later h h' : History ST SP RT RP) → IsSameFor port Passes h h'
        → IsSameFor port Passes (later ++ h) (later ++ h')
    same-after [] h h' s = s
    same-after (e ∷ later) h h' s = same-more e (later ++ h) (later ++ h') (same-after later h h' s)

    -- a statement about commands of this kind after the one history holds after the other
    module _ (Kind : Command ST SP → Type 0) (Said : History ST SP RT RP → Command ST SP → Outcome ST SP RT RP → Type 0)
        (respects : (h h' : History ST SP RT RP) → IsSameFor port Passes h h'
        → (c : Command ST SP) (o : Outcome ST SP RT RP) → Kind c → Said h c o → Said h' c o) where
      pub each-same : (h h' : History ST SP RT RP) (cs : List (Command ST SP)) (os : List (Outcome ST SP RT RP))
          → IsSameFor port Passes h h' → All Kind cs → EachAfter Said h cs os → EachAfter Said h' cs os
      each-same h h' [] [] s kinds each = each
      each-same h h' [] (o ∷ os) s kinds each = each
      each-same h h' (c ∷ cs) [] s kinds each = each
      each-same h h' (c ∷ cs) (o ∷ os) s kinds each = (
        respects h h' s c o (All-head Kind c cs kinds) each.0,
        each-same ((c, o) ∷ h) ((c, o) ∷ h') cs os (same-more (c, o) h h' s) (All-tail Kind c cs kinds) each.1,
      )

      -- and the other way round, after more events in both
      pub each-after : (h h' later : History ST SP RT RP) (cs : List (Command ST SP)) (os : List (Outcome ST SP RT RP))
          → IsSameFor port Passes h h' → All Kind cs
          → EachAfter Said (later ++ h) cs os ↔ EachAfter Said (later ++ h') cs os
      each-after h h' later cs os s kinds =
          let same = same-after later h h' s in (
            each-same (later ++ h) (later ++ h') cs os same kinds,
            each-same (later ++ h') (later ++ h) cs os (same-back (later ++ h) (later ++ h') same) kinds,
          )

    module _ (number : ST → ℕ) (wire : SP → Wire) (size : SP → ℕ) where
      pub sent-same : (h h' : History ST SP RT RP) → IsSameFor port Passes h h'
          → (c : Command ST SP) (o : Outcome ST SP RT RP) → IsSent number wire size port h c o
          → IsSent number wire size port h' c o
      sent-same h h' s (command.Send t f p) o is =
          let next : next_number h ≡ next_number h' = rw (s.alike.set, s.alike.counted) refl in
          subst (λ r. IsSending r o) (ap (λ n. frame_or_refusal number wire size port n (is_open n h) t f p) next
          ∙ ap (λ b. frame_or_refusal number wire size port (next_number h') b t f p)
          (alike_open (next_number h') h h' s.alike)) is
      sent-same h h' s (command.Datagram b groups) o is = is
      sent-same h h' s (command.Fault e) o is = is
      sent-same h h' s (command.SetNextSeq n) o is = is
      sent-same h h' s (command.Read j) o is = is
      sent-same h h' s (command.Close j) o is = is

-- the command reads only handles that pass
abbrev pub ReadsOnly : {ST SP : Type 0} → (ℕ → Type 0) → Command ST SP → Type 0
ReadsOnly Passes c = (k : ℕ) → reads k c ≡ true → Passes k

read_itself : (k : ℕ) → (k == k) ≡ true
read_itself k = grind (arith, nat_tests)

module _ {ST SP K P V : Type 0} (port : ℕ) (Passes : ℕ → Type 0) (type_of : ℕ → K) (number : K → ℕ) (view : P
    → V) (size : P → ℕ) (read : List ℕ → Result V DeError) where
  read-same : (h h' : History ST SP K P) → IsSameFor port Passes h h' → (k : ℕ) (live : Bool) (o : Outcome ST SP K P)
      → Passes k → IsReadOf type_of number view size read port h k live o
      → IsReadOf type_of number view size read port h' k live o
  read-same h h' s k false o passes is = is
  read-same h h' s k true o passes is = (
    is.0,
    subst (λ n. IsNextAnswer type_of number view size read n (is_numbered k) (deliveries port k h')
        (items_of k h') is.0) (s.alike.needs k)
        (subst (λ ds. IsNextAnswer type_of number view size read (needs_of k h) (is_numbered k) ds (items_of k h') is.0)
        (s.delivered k passes)
        (subst (λ xs. IsNextAnswer type_of number view size read (needs_of k h) (is_numbered k)
        (deliveries port k h) xs is.0) (s.given k passes) is.1)),
    is.2,
  )

  pub answered-same : (h h' : History ST SP K P) → IsSameFor port Passes h h'
      → (c : Command ST SP) (o : Outcome ST SP K P) → ReadsOnly Passes c
      → IsAnswered type_of number view size read port h c o → IsAnswered type_of number view size read port h' c o
  answered-same h h' s (command.Read k) o only is =
      subst (λ live. IsReadOf type_of number view size read port h' k live o) (alike_live k h h' s.alike)
      (read-same h h' s k (is_handle_open k h) o (only k (read_itself k)) is)
  answered-same h h' s (command.Close k) o only is = is ∙ ap (λ live. closed_or_not live) (alike_live k h h' s.alike)
  answered-same h h' s (command.Send t f p) o only is = is
  answered-same h h' s (command.Datagram b groups) o only is = is
  answered-same h h' s (command.Fault e) o only is = is
  answered-same h h' s (command.SetNextSeq n) o only is = is
