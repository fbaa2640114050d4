-- The header of a message: 16 bytes (RFC 3549 section 2.3.2; `struct nlmsghdr` of linux/netlink.h).
use Rattle.std.specs.Prelude.{ℕ, List, ◌++◌, Ok}
use Rattle.byteorder.specs.Endian.{little_bytes}
use Rattle.neli_wire.specs.Frames.{number_in}
use Rattle.neli_wire.specs.Writing.{Wire}
use Rattle.neli_consts.specs.declared.nlm_f.NlmF.{NlmF}
use Rattle.neli_msg.specs.declared.header.NlmsghdrAck.{NlmsghdrAck}

-- the stated length of the whole message, its type, its flags, its sequence number and the port
abbrev pub Header : Type 0 → Type 0
Header = NlmsghdrAck

-- the flags of a number; all its bits are kept
abbrev pub flags_of : ℕ → NlmF
flags_of n = record { 0 = n }

-- the header by its places: length at 0, type at 4, flags at 6, sequence number at 8, port at 12
abbrev pub header_in : {K : Type 0} → (ℕ → K) → List ℕ → Header K
header_in type_of s = record {
  len = number_in 4 0 s;
  message_type = type_of (number_in 2 4 s);
  flags = flags_of (number_in 2 6 s);
  sequence_number = number_in 4 8 s;
  port = number_in 4 12 s;
}

-- the bytes of a header
abbrev pub header_wire : {K : Type 0} → (K → ℕ) → Header K → Wire
header_wire type_number h =
    Ok (little_bytes 4 h.len ++ little_bytes 2 (type_number h.message_type) ++ little_bytes 2 h.flags.0
    ++ little_bytes 4 h.sequence_number ++ little_bytes 4 h.port)
