-- Datagrams that arrived for groups, in a history.
use Rattle.std.specs.Prelude.{◌≡◌, ⊤, ◌++◌, ◌∷◌, ℕ, List, [], flat_map}
use Rattle.neli_wire.specs.Writing.{Wire}
use Rattle.neli_consts.specs.declared.nlm_f.NlmF.{NlmF}
use Rattle.neli_reader.specs.Agreement.{untyped_layout}
use Rattle.neli_reader.specs.Cuts.{cut_of}
use Rattle.neli_deliveries.specs.Deliveries.{Untyped}
use Rattle.neli_runs.specs.declared.command.Command.{Command}
use Rattle.neli_runs.specs.declared.command.Command.TheVariants as command
use Rattle.neli_runs.specs.History.{History}
use Rattle.neli_kernel.specs.Delivered.{IsReply, reply_kept}

module _ {ST SP : Type 0} where
  -- a datagram that is taken in, if it arrived for groups
  abbrev pub taken_for_groups : Command ST SP → List (List ℕ)
  taken_for_groups (command.Datagram b []) = []
  taken_for_groups (command.Datagram b (g ∷ groups)) = b.items ∷ []
  taken_for_groups (command.SetNextSeq n) = []
  taken_for_groups (command.Send t f p) = []
  taken_for_groups (command.Fault e) = []
  taken_for_groups (command.Read k) = []
  taken_for_groups (command.Close k) = []

module _ {ST SP RT RP : Type 0} where
  -- all of them, in order
  abbrev pub group_datagrams : History ST SP RT RP → List (List ℕ)
  group_datagrams [] = []
  group_datagrams (e ∷ h) = group_datagrams h ++ taken_for_groups e.0

-- the messages of these datagrams, in order, up to the fault of each
abbrev pub messages_cut_of : List (List ℕ) → List Untyped
messages_cut_of = flat_map (λ d. (cut_of untyped_layout d).0)

module _ {T P : Type 0} (number_of : T → ℕ) (wire : P → Wire) (size : P → ℕ) where
  -- the datagram is a notification of a body of these types, and `u` is its message
  pub record IsNotification (datagram : List ℕ) (u : Untyped) : Type 0 where
    pub message_type : T
    pub flags : NlmF
    pub number : ℕ
    pub port : ℕ
    pub body : P
    pub text : List ℕ
    pub is : IsReply number_of wire size message_type flags number port body text datagram
    pub kept_is : u ≡ reply_kept (number_of message_type) flags number port text

  -- each of the datagrams is one, and `us` are their messages
  abbrev pub AreNotifications : List (List ℕ) → List Untyped → Type 0
  AreNotifications [] [] = ⊤
  AreNotifications [] (u ∷ us) = ⊥
  AreNotifications (d ∷ ds) [] = ⊥
  AreNotifications (d ∷ ds) (u ∷ us) = IsNotification d u × AreNotifications ds us
