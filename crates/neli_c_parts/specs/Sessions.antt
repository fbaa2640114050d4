-- What the calls of a router do to it, for every handle: as neli_router says it of its own calls.
use Rattle.std.specs.Prelude.{◌≡◌, ◌≢◌, ◌⊎◌, not, ℕ, ◌+◌, ℤ, pos, Bool, List, [], ◌∷◌, ◌++◌}
use Rattle.std.specs.Prelude.{Option, Some, None}
use Rattle.std.specs.Prelude.{IfSome, is_some, option_map, nat_eq, nat_lt, unsigned_abs, if◌then◌else◌}
use Rattle.std.specs.Prelude.{length}
use Rattle.std.specs.Prelude.{slice_set, Result, Ok, Err, true, false}
use Rattle.std.specs.declared.io.ErrorKind.{ErrorKind}
use Rattle.std.specs.declared.io.ErrorKind.TheVariants as kind
use Rattle.neli_wire.specs.Sizes.{align}
use Rattle.neli_consts.specs.declared.nlm_f.NlmF.{NlmF}
use Rattle.neli_reader.specs.Agreement.{untyped_layout}
use Rattle.neli_reader.specs.Cuts.{cut_of}
use Rattle.neli_reader.specs.Framed.{Nlmsghdr}
use Rattle.neli_reader.specs.SocketError.{SocketError}
use Rattle.neli_reader.specs.SocketError.TheVariants as socket
use Rattle.neli_reader.specs.Builders.{header_with}
use Rattle.neli_reader.specs.Wires.{message_wire, payload_size}
use Rattle.neli_util.specs.Groups.{without_zeros}
use Rattle.neli_deliveries.specs.declared.delivery.Delivery.{Delivery}
use Rattle.neli_deliveries.specs.Deliveries.{datagram_share, fault_share}
use Rattle.neli_log.specs.Log.{pending_of}
use Rattle.neli_router.specs.declared.handle.HandleState.{HandleState}
use Rattle.neli_router.specs.declared.reply.Reply.{Reply}
use Rattle.neli_router.specs.declared.reply.Reply.TheVariants as reply
use Rattle.neli_lent.specs.Messages.{Lent, messages_in}
use Rattle.neli_router.specs.GivenUp.{has_end, is_given_up, still_open, ungrouped}
use Rattle.neli_router.specs.Reads.{GoesPast, item_for}
use Rattle.neli_router.specs.Same.{SameButHandle}
use Rattle.neli_router.specs.Sends.{expects, frame_or_refusal, number_after}
use Rattle.neli_router.specs.Verdicts.{begun, heard_of}
use Rattle.neli_answers.specs.Answers.{answering_by_flags}
use Rattle.neli_answers.specs.declared.answering.Answering.{Answering}
use Rattle.neli_deliveries.specs.Readings.{IsReading, Item}
use Rattle.neli_reader.specs.Headers.{flags_of}
use Rattle.neli_reader.specs.NlPayload.{NlPayload}
use Rattle.neli_reader.specs.NlPayload.TheVariants as payload
use Rattle.neli_reader.specs.RouterError.{RouterError}
use Rattle.neli_reader.specs.RouterError.TheVariants as router
use Rattle.neli_c_parts.specs.declared.session.NeliItem.{NeliItem}
use Rattle.neli_c_parts.specs.declared.session.NeliSent.{NeliSent}
use Rattle.neli_c_parts.specs.Walks.{refusal_code}
use Rattle.neli_c_parts.specs.declared.session.Session.{Session}
use Rattle.neli_c_parts.specs.declared.session.Slot.TheVariants as slot
use Rattle.neli_c_parts.specs.Slots.{AreFree, handle_at, later_places, next_place, put_at}
use Rattle.neli_c_parts.specs.Codes.{bad_bytes, bad_length, in_use, item, kernel_error, link, memory, no_ack}
use Rattle.neli_c_parts.specs.Codes.{no_handle, ok}
use Rattle.neli_c_parts.specs.Codes.{room, stray, unexpected_ack, waits}
use Rattle.neli_c_parts.specs.Writes.{WritesMessage, put_first}

-- the deliveries that wait for a handle with this number, or for multicast; none if that is not open
abbrev pub pending : Session → Option ℕ → Option (List Delivery)
pending s w = pending_of s.router.deliveries w

-- whether this number is open
abbrev pub is_open : Session → ℕ → Bool
is_open s q = is_some (pending s (Some q))

-- these places are free, the one that was freed last first
abbrev pub HasFree : Session → List ℕ → Type 0
HasFree s ks = AreFree s.handles.items s.freed ks

-- port, next number, handles and the held message are the same
abbrev pub KeepsRest : Session → Session → Type 0
KeepsRest s t =
    (t.router.deliveries.port ≡ s.router.deliveries.port) × (t.router.next_seq ≡ s.router.next_seq)
    × (t.handles.items ≡ s.handles.items) × (t.freed ≡ s.freed) × (t.held ≡ s.held)

-- the handle of multicast, which has returned nothing yet
abbrev pub multicast : HandleState
multicast = record { number = None; needs_ack = false; single_given = false; ended = false }

-- a new router with this port: nothing waits for multicast, whose handle is the only one, nothing was missed, and no
-- number is open
abbrev pub IsNew : ℕ → Session → Type 0
IsNew port s =
    (s.router.deliveries.port ≡ port) × (s.router.next_seq ≡ 0) × (pending s None ≡ Some [])
    × ((q : ℕ) → pending s (Some q) ≡ None) × (s.handles.items ≡ slot.Open multicast ∷ []) × HasFree s []
    × (s.held ≡ None) × (s.router.missed ≡ None)

-- the next request has this number; all else is unchanged
abbrev pub SetsNumber : ℕ → Session → Session → Type 0
SetsNumber number s t =
    (t.router.next_seq ≡ number) × (t.router.deliveries ≡ s.router.deliveries) × (t.handles.items ≡ s.handles.items)
    × (t.freed ≡ s.freed) × (t.held ≡ s.held) × (t.router.missed ≡ s.router.missed)

-- no delivery of a request that was given up waits after these messages, and a request is closed if the last message of
-- its answer is one of them
abbrev pub Settles : List (Lent ℕ) → Session → Session → Type 0
Settles messages s t =
    ((q : ℕ) → is_given_up s.router.given_up.items (Some q) ≡ true → pending t (Some q)
    ≡ (if has_end s.router.deliveries.port s.router.given_up.items messages q then None
    else option_map (λ _. []) (pending s (Some q))))
    × (t.router.given_up.items ≡ still_open (pending t) s.router.given_up.items)

-- each handle gets its share of the datagram, and requests given up get nothing; or memory ran out, and the waiting
-- deliveries are unchanged, but never for no bytes that arrived for no group
abbrev pub TakesDatagram : ℤ → List ℕ → List ℕ → Session → Session → Type 0
TakesDatagram code bytes groups s t =
    ((code ≡ ok) ⊎ (code ≡ memory))
    × (code ≡ ok → (w : Option ℕ) → is_given_up s.router.given_up.items w ≡ false → pending t w
    ≡ option_map (λ ds. ds ++ datagram_share s.router.deliveries.port (is_open s) w (cut_of untyped_layout bytes)
    (without_zeros groups)) (pending s w))
    × (code ≡ ok → Settles (ungrouped (without_zeros groups) (messages_in (λ n. n) bytes).0) s t)
    × (code ≡ memory → (t.router.given_up ≡ s.router.given_up) × ((w : Option ℕ) → pending t w ≡ pending s w))
    × KeepsRest s t × (t.router.heard ≡ s.router.heard) × (bytes ≡ [] → groups ≡ [] → code ≡ ok)

-- the link's fault for a number of errno.h, negated or not: EAGAIN (11), ECONNRESET (104), or another one
abbrev pub fault_kind : ℤ → ErrorKind
fault_kind n =
    if nat_eq (unsigned_abs n) 11 then kind.WouldBlock
    else (if nat_eq (unsigned_abs n) 104 then kind.ConnectionReset else kind.Other)

-- each handle gets its share of a fault of this kind, and requests given up get nothing; or memory ran out, and the
-- waiting deliveries are unchanged, but never if the link would block, nor if no number is open
abbrev pub TakesKind : ℤ → ErrorKind → Session → Session → Type 0
TakesKind code k s t =
    ((code ≡ ok) ⊎ (code ≡ memory))
    × (code ≡ ok → (w : Option ℕ) → is_given_up s.router.given_up.items w ≡ false → pending t w
    ≡ option_map (λ ds. ds ++ fault_share w (socket.Io k)) (pending s w))
    × (code ≡ ok → ((q : ℕ) → is_given_up s.router.given_up.items (Some q) ≡ true → pending t (Some q)
    ≡ option_map (λ _. []) (pending s (Some q)))
    × (t.router.given_up.items ≡ still_open (pending t) s.router.given_up.items))
    × (code ≡ memory → (t.router.given_up ≡ s.router.given_up) × ((w : Option ℕ) → pending t w ≡ pending s w))
    × KeepsRest s t × (t.router.heard ≡ s.router.heard) × (k ≡ kind.WouldBlock → code ≡ ok)
    × (((q : ℕ) → pending s (Some q) ≡ None) → code ≡ ok)

-- the same of the link's fault of a number of errno.h
abbrev pub TakesFault : ℤ → ℤ → Session → Session → Type 0
TakesFault code errno s t = TakesKind code (fault_kind errno) s t

-- the bytes of the message that is held are written; none is, or memory ran out
abbrev pub WritesItem : ℤ → Session → List ℕ → List ℕ → ℕ → ℕ → Type 0
WritesItem code s old new size size' =
    (s.held ≡ None → (code ≡ no_handle) × (size' ≡ size))
    × (code ≡ memory → size' ≡ size)
    × (code ≢ ok → new ≡ old)
    × IfSome s.held (λ m. code ≢ memory → WritesMessage code (message_wire (λ n. n) (λ b. Ok b) m) old new size')

-- the deliveries of the handle at a place are removed, and the place is free, but that of multicast is not used again;
-- or there is none, and nothing changes
abbrev pub ClosesHandle : ℤ → ℕ → Session → Session → Type 0
ClosesHandle code k s t =
    (handle_at k s.handles.items ≡ None → (code ≡ no_handle) × (t ≡ s))
    × ((h : HandleState) → handle_at k s.handles.items ≡ Some h
    → (code ≡ ok) × (pending t h.number ≡ None) × ((w : Option ℕ) → w ≢ h.number → pending t w ≡ pending s w)
    × (t.handles.items ≡ slice_set s.handles.items k (slot.Free s.freed))
    × (k ≢ 0 → (ks : List ℕ) → HasFree s ks → HasFree t (k ∷ ks))
    × (k ≡ 0 → (ks : List ℕ) → HasFree s ks → HasFree t ks)
    × (t.router.deliveries.port ≡ s.router.deliveries.port) × (t.router.next_seq ≡ s.router.next_seq)
    × (t.held ≡ s.held))

-- the request of this body, which is answered so, is written; the place has its handle; nothing is known of its answer
-- yet; and its number is used up
abbrev pub SendsExpecting : Answering → ℕ → ℕ → List ℕ → Session → Session → List ℕ → List ℕ → NeliSent → Type 0
SendsExpecting answering message_type flags body s t old new sent =
    let number = s.router.next_seq in
    (bytes : List ℕ)
    × (frame_or_refusal {T = ℕ} {P = List ℕ} (λ n. n) (λ b. Ok b) length s.router.deliveries.port number
    (is_open s number) message_type (flags_of flags) (payload.Payload body) ≡ Ok bytes)
    × (new ≡ put_first bytes old) × (sent.length ≡ length bytes)
    × (handle_at sent.handle s.handles.items ≡ None)
    × (t.handles.items ≡ put_at sent.handle (expects number answering) s.handles.items)
    × (handle_at sent.handle t.handles.items ≡ Some (expects number answering))
    × ((ks : List ℕ) → HasFree s ks → (sent.handle ≡ next_place s.handles.items ks) × HasFree t (later_places ks))
    × (t.router.next_seq ≡ number_after number) × (pending t (Some number) ≡ Some [])
    × ((w : Option ℕ) → w ≢ Some number → pending t w ≡ pending s w)
    × (t.router.deliveries.port ≡ s.router.deliveries.port) × (t.held ≡ s.held)
    × (heard_of t.router.heard (Some number) ≡ Some (begun answering))
    × ((w : Option ℕ) → w ≢ Some number → heard_of t.router.heard w ≡ heard_of s.router.heard w)

-- the same of a request that is answered as its flags say
abbrev pub SendsRequest : ℕ → ℕ → List ℕ → Session → Session → List ℕ → List ℕ → NeliSent → Type 0
SendsRequest message_type flags body s t old new sent =
    SendsExpecting (answering_by_flags (flags_of flags)) message_type flags body s t old new sent

-- nothing is sent: port, next number, waiting deliveries, the handles and the held message are unchanged
abbrev pub SendsNothing : Session → Session → Type 0
SendsNothing s t =
    (t.router.deliveries.port ≡ s.router.deliveries.port) × (t.router.next_seq ≡ s.router.next_seq)
    × ((w : Option ℕ) → pending t w ≡ pending s w) × (t.held ≡ s.held) × (t.handles.items ≡ s.handles.items)
    × (t.freed ≡ s.freed)

-- of a request of so many bytes, with room for so many: its length exceeds 32 bits, or there is no room
abbrev pub size_code : ℕ → ℕ → ℤ
size_code n most = if nat_lt 4294967295 n then bad_length else (if nat_lt most n then room else ok)

-- why nothing is sent: its size; else the next number is in use, or memory ran out
abbrev pub RefusesRequest : ℤ → List ℕ → Session → List ℕ → Type 0
RefusesRequest code body s out =
    let by_size = size_code (align (16 + length body)) (length out) in
    (by_size ≢ ok → code ≡ by_size)
    × (by_size ≡ ok → ((code ≡ in_use) × (is_open s s.router.next_seq ≡ true)) ⊎ (code ≡ memory))

-- the stored number of bytes: those needed if there is no room, and else none
abbrev pub SaysNeeded : ℤ → List ℕ → NeliSent → NeliSent → Type 0
SaysNeeded code body sent sent' =
    (code ≡ room → sent' ≡ record sent { length = align (16 + length body) }) × (code ≢ room → sent' ≡ sent)

-- the code of a read: of a fault of the link or of a datagram, of the error in place of a message, of an item
abbrev pub socket_code : SocketError → ℤ
socket_code (socket.De e) = refusal_code e
socket_code (socket.Io k) = link
socket_code socket.Memory = memory
socket_code e = bad_bytes

abbrev pub error_code : {K P : Type 0} → RouterError K P → ℤ
error_code (router.De e) = refusal_code e
error_code (router.Socket e) = socket_code e
error_code (router.Nlmsgerr e) = kernel_error
error_code (router.Capped e) = kernel_error
error_code (router.BadSeqOrPid m) = stray
error_code router.NoAck = no_ack
error_code router.UnexpectedAck = unexpected_ack
error_code router.ClosedChannel = no_handle
error_code (router.SeqInUse n) = in_use
error_code router.Memory = memory
error_code (router.Io k) = link
error_code (router.Msg m) = bad_length

abbrev pub item_code : {K P : Type 0} → Item K P → ℤ
item_code (Ok m) = item
item_code (Err e) = error_code e

-- of the router's reply
abbrev pub reply_code : {E : Type 0} → Result (Reply ℕ (List ℕ)) E → ℤ
reply_code (Ok (reply.Item i)) = item_code i
reply_code (Ok reply.End) = ok
reply_code (Ok reply.Waits) = waits
reply_code (Err e) = memory

-- the code of an error, an acknowledgement or the end of a dump, and 0 elsewhere
abbrev pub payload_error : NlPayload ℕ (List ℕ) → ℤ
payload_error (payload.Ack e) = e.error
payload_error (payload.Capped e) = e.error
payload_error (payload.DumpExtAck e) = e.error
payload_error (payload.Err e) = e.error
payload_error p = pos 0

-- the shown fields of a message
abbrev pub shown_fields : Nlmsghdr ℕ (List ℕ) → NeliItem
shown_fields m =
    record {
      message_type = m.header.message_type;
      flags = m.header.flags.0;
      number = m.header.sequence_number;
      port = m.header.port;
      error = payload_error m.payload;
    }

-- the flags of an error: only the header is echoed (CAPPED, 0x100), attributes follow (ACK_TLVS, 0x200)
abbrev pub error_flags : Bool → Bool → NlmF
error_flags capped more = flags_of ((if capped then 256 else 0) + (if more then 512 else 0))

-- an error as the message in which it arrived: type 2, and number and port of the request; none past 32 bits
abbrev pub error_message : NlmF → ℕ → ℕ → NlPayload ℕ (List ℕ) → Option (Nlmsghdr ℕ (List ℕ))
error_message flags number port payload =
    let size = align (16 + payload_size length payload) in
    if nat_lt 4294967295 size then None
    else Some (record { header = header_with size 2 flags number port; payload = payload })

-- the message of an item: itself, or that of an error of the kernel; another error has none
abbrev pub item_message : Item ℕ (List ℕ) → Option (Nlmsghdr ℕ (List ℕ))
item_message (Ok m) = Some m
item_message (Err (router.Nlmsgerr e)) =
    error_message (error_flags false (not (nat_eq (length e.ext_ack) 0))) e.nlmsg.header.sequence_number
    e.nlmsg.header.port (payload.Err e)
item_message (Err (router.Capped e)) =
    error_message (error_flags true (not (nat_eq (length e.ext_ack) 0))) e.nlmsg.sequence_number e.nlmsg.port
    (payload.Capped e)
item_message (Err e) = None

-- the shown fields of a message, if there is one; else those shown before
abbrev pub shown_of : Option (Nlmsghdr ℕ (List ℕ)) → NeliItem → NeliItem
shown_of (Some m) shown = shown_fields m
shown_of None shown = shown

-- an item's message is held, and shown; without an item both are unchanged
abbrev pub Holds : {E : Type 0} → Result (Reply ℕ (List ℕ)) E → Option (Nlmsghdr ℕ (List ℕ))
    → Option (Nlmsghdr ℕ (List ℕ)) → NeliItem → NeliItem → Type 0
Holds (Ok (reply.Item i)) old new a b = (new ≡ item_message i) × (b ≡ shown_of (item_message i) a)
Holds r old new a b = (new ≡ old) × (b ≡ a)

-- no item: the router, the held message and the shown one are unchanged
abbrev pub GivesNothing : Session → Session → NeliItem → NeliItem → Type 0
GivesNothing s t shown shown' = (t.router ≡ s.router) × (t.held ≡ s.held) × (shown' ≡ shown)

-- the first delivery of a handle is returned by the reply rule, its message is held and shown, and `ds` waits
abbrev pub GivesDelivery : ℤ → HandleState → HandleState → Session → Session → Delivery → List Delivery → NeliItem
    → NeliItem → Type 0
GivesDelivery code h h' s t d ds shown shown' =
    (given : Item ℕ (List ℕ)) × IsReading (λ n. n) (λ b. b) length (λ b. Ok b) d given
    × (code ≡ item_code (item_for (λ n. n) h given)) × (t.held ≡ item_message (item_for (λ n. n) h given))
    × (shown' ≡ shown_of (item_message (item_for (λ n. n) h given)) shown)
    × GoesPast (λ n. n) pending_of d ds given h h' s.router t.router

-- of a handle that exists, and is h' then: its end, that it is not open, a wait, or its first delivery; or memory ran
-- out, and all is unchanged
abbrev pub ReadsHandle : ℤ → HandleState → HandleState → Session → Session → NeliItem → NeliItem → Type 0
ReadsHandle code h h' s t shown shown' =
    (h.ended ≡ true → (code ≡ ok) × (h' ≡ h) × GivesNothing s t shown shown')
    × (h.ended ≡ false → pending s h.number ≡ None
    → (code ≡ no_handle) × (h' ≡ record h { ended = true }) × (t.router ≡ s.router) × (t.held ≡ None)
    × (shown' ≡ shown))
    × (h.ended ≡ false → pending s h.number ≡ Some []
    → (code ≡ waits) × (h' ≡ h) × GivesNothing s t shown shown')
    × (h.ended ≡ false → (d : Delivery) (ds : List Delivery) → pending s h.number ≡ Some (d ∷ ds)
    → ((code ≡ memory) × (h' ≡ h) × GivesNothing s t shown shown')
    ⊎ GivesDelivery code h h' s t d ds shown shown')
    × SameButHandle (λ d. d.port) pending_of h.number s.router t.router

-- a read of the handle at a place; without a handle, nothing changes
abbrev pub ReadsPlace : ℤ → ℕ → Session → Session → NeliItem → NeliItem → Type 0
ReadsPlace code k s t shown shown' =
    (handle_at k s.handles.items ≡ None → (code ≡ no_handle) × (t ≡ s) × (shown' ≡ shown))
    × IfSome (handle_at k s.handles.items) (λ h. (after : HandleState)
    × (t.handles.items ≡ slice_set s.handles.items k (slot.Open after)) × (t.freed ≡ s.freed)
    × ((ks : List ℕ) → HasFree s ks → HasFree t ks) × ReadsHandle code h after s t shown shown')
