-- Errors of a router: their sources, and their texts.
use Rattle.std.specs.Prelude.{ℕ, List, ◌++◌, codes, decimal, Option, Some, None}
use Rattle.std.specs.Option.{option_map}
use Rattle.neli_wire.specs.declared.errors.DeError.{DeError}
use Rattle.neli_wire.specs.declared.errors.DeError.TheVariants as de
use Rattle.neli_wire.specs.ErrorTexts.{de_text}
use Rattle.neli_msg.specs.declared.socket_error.SocketError.{SocketError}
use Rattle.neli_msg.specs.declared.socket_error.SocketError.TheVariants as socket
use Rattle.neli_msg.specs.declared.router_error.RouterError.{RouterError}
use Rattle.neli_msg.specs.declared.router_error.RouterError.TheVariants.{Msg, Io, De, Socket}
use Rattle.neli_msg.specs.declared.router_error.RouterError.TheVariants.{Nlmsgerr as Answer, Capped, BadSeqOrPid, NoAck}
use Rattle.neli_msg.specs.declared.router_error.RouterError.TheVariants.{UnexpectedAck, ClosedChannel, SeqInUse, Memory}
use Rattle.neli_msg.specs.SocketErrors.{socket_text}
use Rattle.neli_msg.specs.Answers.{answer_text}

-- a refusal to read; `Memory` stays `Memory`
abbrev pub de_of : {T P : Type 0} → DeError → RouterError T P
de_of (de.Msg text) = De (de.Msg text)
de_of (de.Io kind) = De (de.Io kind)
de_of (de.Utf8 error) = De (de.Utf8 error)
de_of (de.InvalidInput n) = De (de.InvalidInput n)
de_of de.Memory = Memory

-- an error of a link; `Memory` stays `Memory`
abbrev pub socket_of : {T P : Type 0} → SocketError → RouterError T P
socket_of (socket.Msg text) = Socket (socket.Msg text)
socket_of (socket.Ser e) = Socket (socket.Ser e)
socket_of (socket.De e) = Socket (socket.De e)
socket_of (socket.Io kind) = Socket (socket.Io kind)
socket_of socket.Memory = Memory

-- a text as an error; without a text memory ran out
abbrev pub router_of_message : {T P : Type 0} → Option (List ℕ) → RouterError T P
router_of_message (Some text) = Msg text
router_of_message None = Memory

-- the text, where it is this library's; the standard library states those of an `Io` and a `Utf8`
abbrev pub router_text : {T P : Type 0} → RouterError T P → Option (List ℕ)
router_text (Msg text) = Some text
router_text (Io kind) = None
router_text (De e) = option_map (λ text. codes "Deserialization failed: " ++ text) (de_text e)
router_text (Socket e) = option_map (λ text. codes "Socket error: " ++ text) (socket_text e)
router_text (Answer e) = Some (codes "Application error was returned by netlink: " ++ answer_text e)
router_text (Capped e) = Some (codes "Application error was returned by netlink: " ++ answer_text e)
router_text (BadSeqOrPid m) =
    Some (codes "A bad sequence number or PID was received: number " ++ decimal m.header.sequence_number
    ++ codes ", port " ++ decimal m.header.port)
router_text NoAck = Some (codes "No ACK received")
router_text UnexpectedAck = Some (codes "ACK received when none was expected")
router_text ClosedChannel = Some (codes "A channel required for message processing closed")
router_text (SeqInUse n) = Some (codes "Sequence number " ++ decimal n ++ codes " is in use")
router_text Memory = Some (codes "Out of memory")
