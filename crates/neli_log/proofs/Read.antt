-- The next message of a datagram.
use Rattle.std.proofs.Common.{◌≡◌, ℕ, ◌+◌, ◌≤◌, List, length, Ok, refl, ◌∙◌, arith}
use Rattle.neli_wire.specs.Frames.{frame_at}
use Rattle.neli_reader.specs.Agreement.{untyped_layout}
use Rattle.neli_reader.specs.laws.Cuts.{frame_at-longer}
use Rattle.neli_reader.specs.laws.Messages.{layout_with-placed}
use Rattle.neli_deliveries.specs.Deliveries.{Untyped}
use Rattle.neli_lent.specs.Messages.{Lent, as_owned, lent_message}
use Rattle.neli_lent.specs.laws.Messages.{owned-read}

-- what is lent is read untyped as what it becomes
pub read_lent : (s r : List ℕ) (m : Lent ℕ) (u : Untyped) → frame_at (lent_message (λ n. n)) s ≡ Ok (m, r)
    → as_owned (λ n. n) (λ n. n) (λ bytes. Ok bytes) m ≡ Ok u → frame_at untyped_layout s ≡ Ok (u, r)
read_lent s r m u lent owned = owned-read (λ n. n) (λ n. n) (λ bytes. Ok bytes) s r m lent ∙ rw owned refl

-- a message has the bytes of a header at least
pub read_shorter : (s r : List ℕ) (u : Untyped) → frame_at untyped_layout s ≡ Ok (u, r) → length r + 16 ≤ length s
read_shorter s r u is = frame_at-longer untyped_layout (layout_with-placed (λ n. n) _) (omega arith) s r u is
