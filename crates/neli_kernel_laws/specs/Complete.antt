-- The messages that are a whole answer to a request, as a router stores them.
use Rattle.std.specs.Prelude.{◌≡◌, ◌≢◌, ◌<◌, ◌⊎◌, ◌++◌, Bool, true, false, All, List, [], ◌∷◌}
use Rattle.neli_reader.specs.Kinds.{is_multi}
use Rattle.neli_reader.specs.Messages.{message_from}
use Rattle.neli_reader.specs.NlPayload.{NlPayload}
use Rattle.neli_reader.specs.NlPayload.TheVariants as payload
use Rattle.neli_deliveries.specs.Deliveries.{Untyped}
use Rattle.neli_runs.specs.Rule.{is_answer, is_whole_reply}

-- it is an acknowledgement
abbrev pub is_acknowledgement : {K P : Type 0} → NlPayload K P → Bool
is_acknowledgement (payload.Ack e) = true
is_acknowledgement p = false

-- an error of the other side
abbrev pub IsError : Untyped → Type 0
IsError u = (is_answer u.1 ≡ true) × (is_acknowledgement u.1 ≡ false)

-- a message of a dump before its end: it has MULTI, and is neither an answer nor of type 3, NLMSG_DONE
pub record IsPart (u : Untyped) : Type 0 where
  pub no_answer : is_answer u.1 ≡ false
  pub multi : is_multi u.0.flags ≡ true
  pub no_end : u.0.message_type ≢ 3
  pub type_fits : u.0.message_type < 65536

-- a whole reply, or the end of a dump
pub record IsWhole (u : Untyped) : Type 0 where
  pub no_answer : is_answer u.1 ≡ false
  pub whole : is_whole_reply (λ n. n) (message_from u) ≡ true
  pub type_fits : u.0.message_type < 65536

-- the last message of an answer to a request that needs an acknowledgement, or needs none: an error; the
-- acknowledgement, after a whole reply or not; or the whole reply
abbrev pub IsEnding : Bool → List Untyped → Type 0
IsEnding true [] = ⊥
IsEnding true (u ∷ []) = is_answer u.1 ≡ true
IsEnding true (u ∷ a ∷ []) = IsWhole u × (is_acknowledgement a.1 ≡ true)
IsEnding true (u ∷ a ∷ b ∷ more) = ⊥
IsEnding false [] = ⊥
IsEnding false (u ∷ []) = IsError u ⊎ IsWhole u
IsEnding false (u ∷ a ∷ more) = ⊥

-- the whole answer: messages of a dump, or none, and the last message
abbrev pub IsComplete : Bool → List Untyped → Type 0
IsComplete needs us =
    (parts : List Untyped) × (ending : List Untyped) × All IsPart parts × IsEnding needs ending × (us ≡ parts ++ ending)
