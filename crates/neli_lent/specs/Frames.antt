-- Frames whose payloads stay in place.
use Rattle.std.specs.Prelude.{ℕ, List, Ok}
use Rattle.neli_wire.specs.Frames.{Layout, number_in}

-- frames with a header of so many bytes, which begins with the length of the whole; where the header
-- is read already, what it states
abbrev pub headed : ℕ → Layout ℕ (List ℕ)
headed size = record {
  size = size;
  header_of = number_in 2 0;
  length_of = λ len. len;
  payload_of = λ _ bytes. Ok bytes;
}
