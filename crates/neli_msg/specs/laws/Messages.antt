-- Laws of messages by their places.
use Rattle.std.proofs.Common.{◌≢◌, ℕ, ◌+◌, ◌≤◌, List, Result, Err, refl, arith}
use Rattle.neli_wire.specs.declared.errors.DeError.{DeError}
use Rattle.neli_wire.specs.declared.errors.DeError.TheVariants.{Memory}
use Rattle.neli_wire.specs.Frames.{frame_at}
use Rattle.neli_wire.specs.laws.Frames.{IsPlaced, number_in-take, frame_at-local, frame_at-no_memory}
use Rattle.neli_wire.specs.Reading.{IsLocal}
use Rattle.neli_msg.specs.Headers.{Header}
use Rattle.neli_msg.specs.Messages.{layout_with}

-- the header is in the first 16 bytes
pub layout_with-placed : {K V : Type 0} (type_of : ℕ → K) (payload_of : Header K → List ℕ → Result V DeError)
    → IsPlaced (layout_with type_of payload_of)
layout_with-placed type_of payload_of = record {
  own = λ s le.
      let at = λ (n : ℕ) (i : ℕ) (fits : i + n ≤ 16). number_in-take n i 16 s fits le in
      let a = at 4 0 (omega arith) in
      let b = at 2 4 (omega arith) in
      let c = at 2 6 (omega arith) in
      let d = at 4 8 (omega arith) in
      let e = at 4 12 (omega arith) in
      rw (a, b, c, d, e) refl;
}

pub layout_with-local : {K V : Type 0} (type_of : ℕ → K) (payload_of : Header K → List ℕ → Result V DeError)
    → IsLocal (frame_at (layout_with type_of payload_of))
layout_with-local type_of payload_of = frame_at-local (layout_with type_of payload_of)
    (layout_with-placed type_of payload_of)

pub layout_with-no_memory : {K V : Type 0} (type_of : ℕ → K) (payload_of : Header K → List ℕ → Result V DeError)
    → ((h : Header K) (s : List ℕ) → payload_of h s ≢ Err Memory) → (s : List ℕ)
    → frame_at (layout_with type_of payload_of) s ≢ Err Memory
layout_with-no_memory type_of payload_of none = frame_at-no_memory (layout_with type_of payload_of) none
