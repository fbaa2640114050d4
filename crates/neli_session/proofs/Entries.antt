-- Requests of a datagram, one more, and requests that are added and removed again.
use Rattle.std.proofs.Common.{ℕ, ◌+◌, ◌<◌, ◌≡◌, Bool, true, false, List, [], ◌∷◌, ◌++◌, length, take, drop, Option, Some}
use Rattle.std.proofs.Common.{None, map, refl, sym, ap, ◌∙◌, slice_index_or}
use Rattle.std.proofs.lemmas.Bool.{eqb-true}
use Rattle.std.proofs.lemmas.List.{drop_more, take_more}
use Rattle.std.specs.Prelude.{◌==◌, if◌then◌else◌, is_some}
use Rattle.neli_answers.specs.declared.answering.Answering.{Answering}
use Rattle.neli_consts_system.specs.declared.socket.NlFamily.{NlFamily}
use Rattle.neli_lent.specs.Messages.{Lent}
use Rattle.neli_session.specs.declared.entry.Entry.{Entry}
use Rattle.neli_session.specs.declared.request.Request.{Request}
use Rattle.neli_session.specs.Mails.{entry_of}
use Rattle.neli_session.specs.Sends.{first_taken, with_entries, with_entry, without_entries}
use Rattle.neli_session.specs.Sessions.{queued}

pub entries-last : (protocol : NlFamily) (by : Option Answering) (ms : List (Lent ℕ)) (m : Lent ℕ)
    → map (entry_of protocol by) (ms ++ m ∷ []) ≡ map (entry_of protocol by) ms ++ entry_of protocol by m ∷ []
entries-last protocol by [] m = refl
entries-last protocol by (n ∷ ms) m = ap (λ (es : List Entry). entry_of protocol by n ∷ es) (entries-last protocol by ms m)

-- ---- one request more

pub with-last : (es : List Entry) (e : Entry) (q : ℕ) (o : Option Request)
    → with_entries (es ++ e ∷ []) q o ≡ with_entry e q (with_entries es q o)
with-last [] e q o = refl
with-last (d ∷ es) e q o = with-last es e q (with_entry d q o)

abbrev without : Entry → ℕ → Option Request → Option Request
without e q o = if e.number == q then None else o

pub without-last : (es : List Entry) (e : Entry) (q : ℕ) (o : Option Request)
    → without_entries (es ++ e ∷ []) q o ≡ without e q (without_entries es q o)
without-last [] e q o = refl
without-last (d ∷ es) e q o = without-last es e q (without d q o)

-- what is not there cannot be removed
pub without-none : (es : List Entry) (q : ℕ) → without_entries es q None ≡ None
without-none [] q = refl
without-none (e ∷ es) q = go (e.number == q) (without-none es q)
  where
    go : (b : Bool) → without_entries es q None ≡ None → without_entries es q (if b then None else None) ≡ None
    go true none = none
    go false none = none

-- a request that was added and removed again leaves what was there without it
pub back-again : (es : List Entry) (e : Entry) (q : ℕ) (now before : Option Request) → without_entries es q now ≡ before
    → (e.number == q ≡ true → now ≡ None) → without_entries (es ++ e ∷ []) q (with_entry e q now) ≡ before
back-again es e q now before is free = without-last es e q (with_entry e q now) ∙ go (e.number == q) free
  where
    go : (b : Bool) → (b ≡ true → now ≡ None)
        → (if b then None else without_entries es q (if b then Some (queued e.answering e.echoes) else now)) ≡ before
    go true free = sym (without-none es q) ∙ ap (λ (o : Option Request). without_entries es q o) (sym (free refl)) ∙ is
    go false free = is

-- whether a number is taken depends on what is there alone
pub taken-same : (es : List Entry) (f g : ℕ → Option Request) → ((q : ℕ) → f q ≡ g q) → first_taken f es ≡ first_taken g es
taken-same [] f g same = refl
taken-same (e ∷ es) f g same =
    ap (λ (o : Option Request). if is_some o then Some e.number else first_taken (λ q. with_entry e q (f q)) es)
    (same e.number)
    ∙ ap (λ (o : Option ℕ). if is_some (g e.number) then Some e.number else o)
    (taken-same es (λ q. with_entry e q (f q)) (λ q. with_entry e q (g q))
    (λ q. ap (λ (o : Option Request). with_entry e q o) (same q)))

module _ (es : List Entry) (n : ℕ) (d : Entry) (before now new : ℕ → Option Request) where
  abbrev next : Entry
  next = slice_index_or es n d

  pub added-more : n < length es → ((q : ℕ) → now q ≡ with_entries (take n es) q (before q))
      → ((q : ℕ) → new q ≡ with_entry next q (now q))
      → (q : ℕ) → new q ≡ with_entries (take (n + 1) es) q (before q)
  added-more more added step q = step q ∙ ap (λ (o : Option Request). with_entry next q o) (added q)
      ∙ sym (with-last (take n es) next q (before q))
      ∙ ap (λ (xs : List Entry). with_entries xs q (before q)) (sym (take_more es n d more))

  pub back-more : n < length es → ((q : ℕ) → without_entries (take n es) q (now q) ≡ before q)
      → now next.number ≡ None → ((q : ℕ) → new q ≡ with_entry next q (now q))
      → (q : ℕ) → without_entries (take (n + 1) es) q (new q) ≡ before q
  back-more more back free step q =
      ap (λ (xs : List Entry). without_entries xs q (new q)) (take_more es n d more)
      ∙ ap (λ (o : Option Request). without_entries (take n es ++ next ∷ []) q o) (step q)
      ∙ back-again (take n es) next q (now q) (before q) (back q)
      (λ same. ap now (sym (eqb-true next.number q same)) ∙ free)

  pub free-more : n < length es → first_taken before es ≡ first_taken now (drop n es) → now next.number ≡ None
      → ((q : ℕ) → new q ≡ with_entry next q (now q))
      → first_taken before es ≡ first_taken new (drop (n + 1) es)
  free-more more same free step = same ∙ ap (λ (xs : List Entry). first_taken now xs) (drop_more es n d more)
      ∙ ap (λ (o : Option Request). if is_some o then Some next.number
      else first_taken (λ q. with_entry next q (now q)) (drop (n + 1) es)) free
      ∙ taken-same (drop (n + 1) es) (λ q. with_entry next q (now q)) new (λ q. sym (step q))
