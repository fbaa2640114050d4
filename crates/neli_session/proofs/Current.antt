-- A list is current where its last request was answered completely, and nothing was lost since.
use Rattle.std.proofs.Common.{ℕ, ◌≡◌, Bool, true, false, ◌==◌, if◌then◌else◌, List, [], ◌∷◌, ◌++◌, Some}
use Rattle.std.proofs.Common.{refl, sym, ◌∙◌}
use Rattle.std.specs.List.{list_any}
use Rattle.neli_session.specs.declared.freshness.Freshness.{Freshness}
use Rattle.neli_session.specs.declared.freshness.Freshness.TheVariants as list
use Rattle.neli_session.specs.declared.request.Verdict.{Verdict}
use Rattle.neli_session.specs.declared.request.Verdict.TheVariants as stands
use Rattle.neli_session.specs.Freshness.{Ended, Event, Lost, Requested, after_events, is_loss, is_request, judged}
use Rattle.neli_session.specs.Freshness.{judged_in, since, then_is, verdict_in}

pub stale_stays : (es : List Event) → list_any is_request es ≡ false → after_events es list.Stale ≡ list.Stale
stale_stays [] none = refl
stale_stays (Requested q ∷ es) none = absurd cc
stale_stays (Ended q v ∷ es) none = stale_stays es none
stale_stays (Lost ∷ es) none = stale_stays es none

current-until : (es : List Event) → list_any is_request es ≡ false
    → after_events es list.Current ≡ (if list_any is_loss es then list.Stale else list.Current)
current-until [] none = refl
current-until (Requested q ∷ es) none = absurd cc
current-until (Ended q v ∷ es) none = current-until es none
current-until (Lost ∷ es) none = stale_stays es none

stale-until : (es : List Event) → list_any is_request es ≡ false
    → after_events es list.Stale ≡ (if list_any is_loss es then list.Stale else list.Stale)
stale-until es none = stale_stays es none ∙ sym (same (list_any is_loss es))
  where
    same : (b : Bool) → (if b then list.Stale else list.Stale) ≡ list.Stale
    same true = refl
    same false = refl

-- after its answer has ended
judged-until : (v : Verdict) (es : List Event) → list_any is_request es ≡ false
    → after_events es (judged v) ≡ (if list_any is_loss es then list.Stale else judged v)
judged-until stands.Complete es none = current-until es none
judged-until stands.Pending es none = stale-until es none
judged-until stands.Interrupted es none = stale-until es none
judged-until (stands.Failed n) es none = stale-until es none
judged-until (stands.Lost l) es none = stale-until es none
judged-until stands.Unanswered es none = stale-until es none

read-until : (q : ℕ) (es : List Event) → list_any is_request es ≡ false → after_events es (list.Read q) ≡ since q es
read-until q [] none = refl
read-until q (Requested n ∷ es) none = absurd cc
read-until q (Ended n v ∷ es) none = by (q == n) (judged-until v es none) (read-until q es none)
  where
    by : (b : Bool) → after_events es (judged v) ≡ (if list_any is_loss es then list.Stale else judged v)
        → after_events es (list.Read q) ≡ since q es
        → after_events es (if b then judged v else list.Read q)
        ≡ (if list_any is_loss es then list.Stale else judged_in q (if b then Some v else verdict_in q es))
    by true ended more = ended
    by false ended more = more
read-until q (Lost ∷ es) none = stale_stays es none

pub last_decides : (before es : List Event) (q : ℕ) → list_any is_request es ≡ false
    → after_events (before ++ Requested q ∷ es) list.Stale ≡ since q es
last_decides before es q none = from before list.Stale
  where
    from : (before : List Event) (f : Freshness) → after_events (before ++ Requested q ∷ es) f ≡ since q es
    from [] f = read-until q es none
    from (e ∷ before) f = from before (then_is e f)
