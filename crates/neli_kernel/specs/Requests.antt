-- The kind of a request (the kernel's `netlink_rcv_skb`; the flags of linux/netlink.h), and how it is answered, by the
-- table of neli_answers.
use Rattle.std.specs.Prelude.{ℕ, ◌==◌, ◌&&◌, Bool, bit_and, length, nat_le}
use Rattle.neli_consts_system.specs.declared.socket.NlFamily.{NlFamily}
use Rattle.neli_consts_system.specs.declared.socket.NlFamily.TheVariants.{Generic, Route}
use Rattle.neli_answers.specs.Answers.{answering_of, is_dump}
use Rattle.neli_answers.specs.declared.answering.Answering.{Answering}
use Rattle.neli_kernel.specs.declared.request.Request.{Request}

-- all of these bits are set in its flags
abbrev pub has_flags : Request → ℕ → Bool
has_flags asked bits = bit_and asked.header.flags.0 bits == bits

-- REQUEST (1) is set, and the type is no control message's: those are below 16 (NLMSG_MIN_TYPE)
abbrev pub is_handled : Request → Bool
is_handled asked = has_flags asked 1 && nat_le 16 asked.header.message_type

-- how it is answered on a socket of this protocol
abbrev pub answering_in : NlFamily → Request → Answering
answering_in protocol asked =
    answering_of protocol asked.header.message_type asked.header.flags (length asked.payload.now)

-- in generic netlink it is a dump
abbrev pub wants_dump : Request → Bool
wants_dump asked = is_dump Generic asked.header.message_type asked.header.flags

-- in routing netlink it is one
abbrev pub wants_routing_dump : Request → Bool
wants_routing_dump asked = is_dump Route asked.header.message_type asked.header.flags
