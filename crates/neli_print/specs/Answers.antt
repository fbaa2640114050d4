-- Answers: errors, acknowledgements and the ends of dumps (RFC 3549 section 2.3.2.2).
use Rattle.std.specs.Prelude.{ℕ, ◌-◌, min, List, [], drop, length, take, Option, Some, None}
use Rattle.std.specs.Borrow.{Bor}
use Rattle.std.specs.Option.{option_map}
use Rattle.neli_wire.specs.Sizes.{align}
use Rattle.neli_msg.specs.declared.kind.Kind.{Kind}
use Rattle.neli_msg.specs.declared.kind.Kind.TheVariants.{DumpEnd, Acknowledgement, Capped, Failure}
use Rattle.neli_msg.specs.declared.kind.Tail.{Tail}
use Rattle.neli_msg.specs.declared.kind.Tail.TheVariants.{Unread, Attributes}
use Rattle.neli_msg.specs.Kinds.{kind_of}
use Rattle.neli_tables_walk.specs.declared.head.Head.{Head}
use Rattle.neli_print.specs.declared.answer.Parts.{Parts}
use Rattle.neli_print.specs.declared.head.Header.{Header}
use Rattle.neli_print.specs.Heads.{header_in}

-- what an answer has behind its code: the header of the request that it is for, the body of that
-- request, attributes, and bytes of which nothing is known
abbrev pub PartsSeen : Type 0
PartsSeen = Option Header × Option (List ℕ) × Option (List ℕ) × List ℕ

abbrev pub bytes_view : Option (Bor (List ℕ)) → Option (List ℕ)
bytes_view bytes = option_map (λ b. b.now) bytes

abbrev pub parts_view : Parts → PartsSeen
parts_view parts =
    (parts.request, bytes_view parts.body, bytes_view parts.attributes, parts.rest.now)

-- bytes of which nothing is known
abbrev pub bare : List ℕ → PartsSeen
bare rest = (None, None, None, rest)

-- attributes
abbrev pub listed : List ℕ → PartsSeen
listed attributes = (None, None, Some attributes, [])

-- a request's header, and the tail behind it
abbrev pub headed : Header → Tail → List ℕ → PartsSeen
headed request Attributes behind = (Some request, None, Some behind, [])
headed request Unread behind = (Some request, None, None, behind)

-- the bytes of a request's body that are echoed: as many as it states behind its header's 16, at
-- most all
abbrev pub echoed_size : ℕ → List ℕ → ℕ
echoed_size stated echoed = min (stated - 16) (length echoed)

-- a whole request, and attributes behind it
abbrev pub whole : Header → List ℕ → PartsSeen
whole request echoed =
    let size = echoed_size request.length echoed in
    (Some request, Some (take size echoed), Some (drop (align size) echoed), [])

-- a request, of which the header is echoed, with this tail, or all
abbrev pub request_with : Option Header → Option Tail → List ℕ → PartsSeen
request_with None tail behind = bare behind
request_with (Some request) (Some tail) behind = headed request tail (drop 16 behind)
request_with (Some request) None behind = whole request (drop 16 behind)

abbrev pub request_parts : ℕ → Option Tail → List ℕ → PartsSeen
request_parts protocol tail behind = request_with (header_in protocol behind) tail behind

-- by its kind
abbrev pub kind_parts : Kind → ℕ → List ℕ → PartsSeen
kind_parts (Acknowledgement tail) protocol behind = request_parts protocol (Some tail) behind
kind_parts (Capped tail) protocol behind = request_parts protocol (Some tail) behind
kind_parts Failure protocol behind = request_parts protocol None behind
kind_parts DumpEnd protocol behind = listed behind
kind_parts kind protocol behind = bare behind

-- what an answer has behind its code of four bytes
abbrev pub answer_parts : Head → List ℕ → PartsSeen
answer_parts head payload =
    kind_parts (kind_of head.message_type head.flags payload) head.protocol (drop 4 payload)
