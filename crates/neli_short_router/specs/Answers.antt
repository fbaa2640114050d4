-- What reads return, by the reply rule, of an answer from its first delivery on.
use Rattle.std.specs.Prelude.{◌≡◌, ℕ, Bool, ◌||◌, List, ◌++◌, Option, Some, None, ⊤, Result}
use Rattle.std.specs.List.{AllZip}
use Rattle.neli_wire.specs.declared.errors.DeError.{DeError}
use Rattle.neli_deliveries.specs.declared.delivery.Delivery.{Delivery}
use Rattle.neli_deliveries.specs.Readings.{IsReading, Item}
use Rattle.neli_router.specs.GivenUp.{finishes}
use Rattle.neli_router.specs.Rule.{has_number}
use Rattle.neli_router.specs.Verdicts.{given_of, verdict}
use Rattle.neli_router.specs.declared.verdict.Heard.{Heard}
use Rattle.neli_router.specs.declared.verdict.Verdict.{Verdict}
use Rattle.neli_router.specs.laws.Verdicts.{gave, stops}
use Rattle.neli_short_router.specs.Reads.{Stand}

-- what is known of an answer, where something is, has this verdict
abbrev pub HasVerdict : Verdict → Option Heard → Type 0
HasVerdict v None = ⊤
HasVerdict v (Some heard) = heard.verdict ≡ v

-- what is known after these deliveries were read too: the other side answers as before, and its last message was read
-- if it is one of them
abbrev pub HasFinished : List Delivery → Option Heard → Option Heard → Type 0
HasFinished ds None after = after ≡ None
HasFinished ds (Some before) None = ⊥
HasFinished ds (Some before) (Some after) =
    (after.answering ≡ before.answering) × (after.finished ≡ (before.finished || finishes before.answering ds))

-- reading stands as after these items, the first deliveries as the caller's types: by them the handle returned a single
-- reply or not, has ended or not, and the answer has its verdict
pub record HasRead {K P : Type 0} (number_of : K → ℕ) (items : List (Item K P)) (s : Stand) : Type 0 where
  pub single : s.handle.single_given ≡ gave number_of s.handle.needs_ack (has_number s.handle.number) items
  pub ended : s.handle.ended ≡ stops number_of s.handle.needs_ack (has_number s.handle.number) items
  pub verdict : HasVerdict (verdict number_of s.handle.needs_ack (has_number s.handle.number) items) s.heard

-- after `before`, reads returned what the reply rule gives of the first of these deliveries, in order and each once;
-- and reading stands so then, with the others waiting
pub record IsAnswer {K P V : Type 0} (type_of : ℕ → K) (number_of : K → ℕ) (view : P → V) (size : P → ℕ)
    (read : List ℕ → Result V DeError) (needs numbered : Bool) (heard : Option Heard) (before : List (Item K P))
    (ds : List Delivery) (given : List (Item K P)) (t : Stand) : Type 0 where
  pub taken : List Delivery
  pub left : List Delivery
  pub cut : ds ≡ taken ++ left
  pub readings : List (Item K P)
  pub are : AllZip (IsReading type_of view size read) taken readings
  pub given_all : given_of number_of needs numbered (before ++ readings)
      ≡ given_of number_of needs numbered before ++ given
  pub stands : HasRead number_of (before ++ readings) t
  pub finished : HasFinished taken heard t.heard
  pub waits : t.waits ≡ Some left
