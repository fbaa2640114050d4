-- A lent read of a session, by that of its router.
use Rattle.std.proofs.Common.{◌≡◌, ℕ, ℤ, true, false, List, [], ◌∷◌, Some, None, Err, ap, subst, ◌∙◌}
use Rattle.neli_deliveries.specs.declared.delivery.Delivery.{Delivery}
use Rattle.neli_deliveries.specs.Readings.{Item}
use Rattle.neli_router.specs.Lending.{IsLentReply, untyped}
use Rattle.neli_router.specs.Rule.{has_number, item_of}
use Rattle.neli_router.specs.declared.handle.HandleState.{HandleState}
use Rattle.neli_router.specs.declared.lending.LentError.TheVariants as error
use Rattle.neli_router.specs.declared.lending.LentReply.{LentReply}
use Rattle.neli_router.specs.declared.lending.LentReply.TheVariants as reply
use Rattle.neli_c_parts.specs.declared.lending.NeliLent.{NeliLent}
use Rattle.neli_c_parts.specs.declared.session.Session.{Session}
use Rattle.neli_c_parts.specs.Lending.{Gives, LendsHandle, LendsItem, given_code}
use Rattle.neli_c_parts.specs.Sessions.{pending}

module _ (code : ℤ) (old new : NeliLent) where
  -- the facts about this reply
  given-as : (r x : LentReply) → r ≡ x → Gives r old new → Gives x old new
  given-as r x is given = subst (λ (y : LentReply). Gives y old new) is given

  -- the item that a reply lends
  item-in : (r : LentReply) (i : Item ℕ (List ℕ)) → code ≡ given_code r → Gives r old new → IsLentReply i r
      → LendsItem code i old new
  item-in (reply.Item l) i is given lent = (l, lent, is, given)
  item-in reply.End i is given lent = absurd lent
  item-in reply.Waits i is given lent = absurd lent

  pub lends : (h : HandleState) (s : Session) (r : LentReply) → code ≡ given_code r → Gives r old new
      → (h.ended ≡ true → r ≡ reply.End)
      → (h.ended ≡ false → pending s h.number ≡ None → r ≡ reply.Item (Err error.ClosedChannel))
      → (h.ended ≡ false → pending s h.number ≡ Some [] → r ≡ reply.Waits)
      → (h.ended ≡ false → (d : Delivery) (ds : List Delivery) → pending s h.number ≡ Some (d ∷ ds)
      → IsLentReply (item_of (λ n. n) h.needs_ack (has_number h.number) h.single_given (untyped d)) r)
      → LendsHandle code h s old new
  lends h s r is given ended closed waiting lent = (
    λ e. (is ∙ ap given_code (ended e), given-as r reply.End (ended e) given),
    λ e p. (is ∙ ap given_code (closed e p), given-as r (reply.Item (Err error.ClosedChannel)) (closed e p) given),
    λ e p. (is ∙ ap given_code (waiting e p), given-as r reply.Waits (waiting e p) given),
    λ e d ds p. item-in r _ is given (lent e d ds p),
  )
