use Rattle.std.proofs.Common.{◌≡◌}
use Rattle.neli_lent.specs.Messages.{messages_in}
use Rattle.neli_lent.specs.Walks.{items_of}
use Rattle.neli_router.specs.GivenUp.{ends_it}
use Rattle.neli_router.proofs.Settling.{any_item}
use Rattle.neli_router.proofs.given_up.has_end.Given as goal

-- no message so far is the last
abbrev pub invariant-loop-item : goal.invariant-loop-item
invariant-loop-item l =
    any_item (ends_it l.fn.port l.fn.request) (items_of (messages_in (λ n. n) l.item-iterator))
    ≡ any_item (ends_it l.fn.port l.fn.request) (items_of (messages_in (λ n. n) l.fn.bytes))
