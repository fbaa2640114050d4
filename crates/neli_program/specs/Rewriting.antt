-- A datagram that is read and written again.
use Rattle.std.specs.Prelude.{◌≡◌, ◌≢◌, ◌⊎◌, ◌≤◌, ◌+◌, List, [], ℕ, Option, None, Some, Ok, length, MatchOption}
use Rattle.neli_wire.specs.declared.errors.DeError.{DeError}
use Rattle.neli_wire.specs.Frames.{frame_at}
use Rattle.neli_reader.specs.Agreement.{untyped_layout}
use Rattle.std.specs.List.{All}
use Rattle.neli_reader.specs.Zeroed.{HasNoTail, datagram_zeroed, untyped_wire}
use Rattle.neli_program.specs.declared.line.Ending.{Ending}
use Rattle.neli_program.specs.declared.line.Ending.TheVariants.{Whole, Tail, Memory}
use Rattle.neli_program.specs.Listing.{Raw, ending_of, raw_cut}

-- all its bytes with zeros for padding, if it has no fault and all of it is read; nothing, and the ending of its fault,
-- if it has one; nothing, and the ending for a tail, if a message has one; or memory ran out, of which a datagram
-- shorter than a header takes none
abbrev pub Rewrites : List ℕ → List ℕ → Ending → Type 0
Rewrites bytes written Whole =
    ((raw_cut bytes).1 ≡ None) × All HasNoTail (raw_cut bytes).0 × (written ≡ datagram_zeroed bytes)
Rewrites bytes written Tail =
    ((raw_cut bytes).1 ≡ None) × (¬ All HasNoTail (raw_cut bytes).0) × (written ≡ [])
Rewrites bytes written Memory = (16 ≤ length bytes) × (written ≡ [])
Rewrites bytes written e =
    ((raw_cut bytes).1 ≢ None) × (e ≡ ending_of (raw_cut bytes).1) × (written ≡ [])

-- the message at the front of these bytes, written again: as many bytes as it has; none if a part of it is not read
abbrev pub IsAgain : List ℕ → Option (List ℕ) → Type 0
IsAgain bytes again =
    (m : Raw) × (later : List ℕ) × (frame_at untyped_layout bytes ≡ Ok (m, later))
    × MatchOption again (¬ HasNoTail m)
    (λ w. HasNoTail m × (untyped_wire m ≡ Ok w) × (length w + length later ≡ length bytes))

-- nothing is written of a datagram whose rest has a tail: it ends with the fault of the rest, or else with the tail, or
-- memory ran out
abbrev pub TailEnds : List ℕ → List ℕ → Ending → Type 0
TailEnds left written e =
    (written ≡ []) × ((e ≡ Memory) ⊎ (((raw_cut left).1 ≡ None) × (e ≡ Tail))
    ⊎ ((f : DeError) × ((raw_cut left).1 ≡ Some f) × (e ≡ ending_of (Some f))))
