-- Frames: they begin with a header that states the length of the whole, the header included.
use Rattle.std.specs.Prelude.{◌≡◌, ℕ, ◌-◌, ◌≤◌, List, [], ◌∷◌, ◌++◌}
use Rattle.std.specs.Prelude.{length, take, drop, Result, Ok, Err, nat_lt, if◌then◌else◌}
use Rattle.byteorder.specs.Endian.{little_number}
use Rattle.neli_wire.specs.Sizes.{align}
use Rattle.neli_wire.specs.declared.errors.DeError.{DeError}
use Rattle.neli_wire.specs.declared.errors.DeError.TheVariants.{InvalidInput}
use Rattle.neli_wire.specs.Bytes.{Reading, short}
use Rattle.neli_wire.specs.Reading.{◌>>=◌}

-- the number in the n bytes from place i, the lowest first
abbrev pub number_in : ℕ → ℕ → List ℕ → ℕ
number_in n i s = little_number n (drop i s)

-- a kind of frames: the length of its header, the header's meaning, and the payload's meaning
pub record Layout (H V : Type 0) : Type 0 where
  pub size : ℕ
  pub header_of : List ℕ → H
  pub length_of : H → ℕ
  pub payload_of : H → List ℕ → Result V DeError

-- a frame: a header, the bytes that spell the payload, and any bytes up to a multiple of four
pub record IsFrame {H V : Type 0} (layout : Layout H V) (frame : List ℕ) (header : H) (payload : V) : Type 0 where
  pub header_is : layout.header_of frame ≡ header
  pub least : layout.size ≤ layout.length_of header
  pub whole : length frame ≡ align (layout.length_of header)
  pub payload_is : layout.payload_of header (take (layout.length_of header - layout.size) (drop layout.size frame))
      ≡ Ok payload

-- the payload and the padding after a header, in bytes that begin with the header
abbrev pub frame_after : {H V : Type 0} → Layout H V → H → List ℕ → Reading (H × V)
frame_after layout h s =
    if nat_lt (layout.length_of h) layout.size then Err (InvalidInput (layout.length_of h))
    else (if nat_lt (length s) (layout.length_of h) then Err (InvalidInput (layout.length_of h - layout.size))
    else (layout.payload_of h (take (layout.length_of h - layout.size) (drop layout.size s)) >>= λ v.
    (if nat_lt (length s) (align (layout.length_of h)) then Err short
    else Ok ((h, v), drop (align (layout.length_of h)) s))))

-- the frame that begins the bytes, or the first fault that holds
unfoldable pub frame_at : {H V : Type 0} → Layout H V → List ℕ → Reading (H × V)
frame_at layout s =
    if nat_lt (length s) layout.size then Err short else frame_after layout (layout.header_of s) s

-- the payload's bytes are all there, and reading them takes memory
abbrev pub frame_takes_memory : {H V : Type 0} → Layout H V → (H → List ℕ → Type 0) → List ℕ → Type 0
frame_takes_memory layout takes s =
    let header = layout.header_of s in let n = layout.length_of header in
    (layout.size ≤ length s) × (layout.size ≤ n) × (n ≤ length s)
    × takes header (take (n - layout.size) (drop layout.size s))

-- the bytes are the frames of these headers and payloads, one after the other
abbrev pub AreFrames : {H V : Type 0} → Layout H V → List ℕ → List (H × V) → Type 0
AreFrames layout s [] = s ≡ []
AreFrames layout s (a ∷ later) =
    (frame : List ℕ) × (rest : List ℕ) × (s ≡ frame ++ rest) × IsFrame layout frame a.0 a.1
    × AreFrames layout rest later
