-- Items that are lent one after the other.
use Rattle.std.proofs.Common.{◌≡◌, ◌||◌, Bool, true, false, if◌then◌else◌, List, [], ◌∷◌, drop, Option, Some, None}
use Rattle.std.proofs.Common.{ap, refl, subst, sym, ◌∙◌}
use Rattle.neli_deliveries.specs.Deliveries.{head_of}
use Rattle.neli_deliveries.specs.declared.delivery.Delivery.{Delivery}
use Rattle.neli_log.specs.Lending.{IsFirstLent}
use Rattle.neli_log.specs.declared.lending.LentDelivery.{LentDelivery}
use Rattle.neli_router.proofs.LentItems.{after_step, lends_item, steps_past}
use Rattle.neli_router.specs.Ahead.{Coming, LendsNext, after_next, at_end, before, coming_for, coming_of, item_at}
use Rattle.neli_router.specs.Ahead.{at_wait, none_coming, not_open, passed}
use Rattle.neli_router.specs.Lending.{LentItem, lent_item, lent_step}
use Rattle.neli_router.specs.Rule.{has_number}
use Rattle.neli_router.specs.declared.handle.HandleState.{HandleState}
use Rattle.neli_router.specs.declared.lending.LentReply.TheVariants as reply
use Rattle.neli_router.specs.declared.lending.Step.{Step}

-- for a handle that has ended none comes
pub ended_coming : (h : HandleState) (w : Option (List Delivery)) → h.ended ≡ true
    → coming_for h w ≡ none_coming at_end
ended_coming h None is = ap (λ (b : Bool). none_coming (if b then at_end else not_open)) is
ended_coming h (Some []) is = ap (λ (b : Bool). none_coming (if b then at_end else at_wait)) is
ended_coming h (Some (d ∷ ds)) is =
    ap (λ (b : Bool). if b then none_coming at_end else before (item_at h d) (coming_of (passed h d) ds)) is

-- for an open one the item of the first delivery, and then those after it
pub first_coming : (h : HandleState) (d : Delivery) (ds : List Delivery) → h.ended ≡ false
    → coming_of h (d ∷ ds) ≡ before (item_at h d) (coming_of (passed h d) ds)
first_coming h d ds is =
    ap (λ (b : Bool). if b then none_coming at_end else before (item_at h d) (coming_of (passed h d) ds)) is

-- so the end is lent
pub end_lent_ahead : (h : HandleState) (w : Option (List Delivery)) (a : Coming) → h.ended ≡ true
    → coming_for h w ≡ a → LendsNext a reply.End × (a ≡ after_next a)
end_lent_ahead h w a is view =
    let none : none_coming at_end ≡ a = sym (ended_coming h w is) ∙ view in (
      subst (λ (x : Coming). LendsNext x reply.End) none refl,
      subst (λ (x : Coming). x ≡ after_next x) none refl,
    )

-- or the item of the first delivery, and the handle is past it
pub item_lent_ahead : (s n : HandleState) (xs ys : List Delivery) (r : Option LentDelivery) (l : LentDelivery)
    (got : LentItem) (step : Step) (a : Coming) → IsFirstLent (head_of (Some xs)) r → ys ≡ drop 1 xs → r ≡ Some l
    → got ≡ lent_item s.needs_ack (has_number s.number) s.single_given l
    → step ≡ lent_step s.needs_ack (has_number s.number) s.single_given l
    → n ≡ record s { single_given = s.single_given || step.single; ended = step.ended }
    → s.ended ≡ false → coming_of s xs ≡ a
    → LendsNext a (reply.Item got) × (coming_of n ys ≡ after_next a)
item_lent_ahead s n [] ys r l got step a first rest is lent past new open_ view = absurd (let f = sym first ∙ is in cc)
item_lent_ahead s n (d ∷ ds) ys r l got step a first rest is lent past new open_ view =
    let waits : Option (List Delivery) = Some (d ∷ ds) in
    let come : before (item_at s d) (coming_of (passed s d) ds) ≡ a = sym (first_coming s d ds open_) ∙ view in
    let on : n ≡ passed s d =
    after_step s n d step (steps_past s waits r l step d ds first is past refl) new in (
      subst (λ (x : Coming). LendsNext x (reply.Item got)) come (lends_item s waits r l got d ds first is lent refl),
      ap (λ (h : HandleState). coming_of h ys) on ∙ ap (coming_of (passed s d)) rest ∙ ap after_next come,
    )
