-- Copies: where making one takes memory.
use Rattle.std.specs.Prelude.{◌<◌, ◌⊎◌, length}
use Rattle.neli_wire.specs.Refusals.{de_copy_takes_memory, ser_copy_takes_memory}
use Rattle.neli_msg.specs.declared.answer.Nlmsgerr.{Nlmsgerr}
use Rattle.neli_msg.specs.declared.payload.NlPayload.{NlPayload}
use Rattle.neli_msg.specs.declared.payload.NlPayload.TheVariants as payload
use Rattle.neli_msg.specs.declared.router_error.RouterError.{RouterError}
use Rattle.neli_msg.specs.declared.router_error.RouterError.TheVariants as router
use Rattle.neli_msg.specs.declared.socket_error.SocketError.{SocketError}
use Rattle.neli_msg.specs.declared.socket_error.SocketError.TheVariants as socket

-- an answer: where copying its message does, or where it has attributes
abbrev pub answer_copy_takes_memory : {M : Type 0} → (M → Type 0) → Nlmsgerr M → Type 0
answer_copy_takes_memory takes e = takes e.nlmsg ⊎ (0 < length e.ext_ack)

-- an error of a link: where it has a text
abbrev pub socket_copy_takes_memory : SocketError → Type 0
socket_copy_takes_memory (socket.Msg text) = 0 < length text
socket_copy_takes_memory (socket.Ser e) = ser_copy_takes_memory e
socket_copy_takes_memory (socket.De e) = de_copy_takes_memory e
socket_copy_takes_memory e = ⊥

-- by where copying a body takes memory
module _ {K P : Type 0} (takes : P → Type 0) where
  -- a payload: where copying its body does, or where it has attributes
  abbrev pub payload_copy_takes_memory : NlPayload K P → Type 0
  payload_copy_takes_memory (payload.Payload body) = takes body
  payload_copy_takes_memory (payload.Err e) = answer_copy_takes_memory (λ m. takes m.payload.0) e
  payload_copy_takes_memory (payload.Ack e) = 0 < length e.ext_ack
  payload_copy_takes_memory (payload.Capped e) = 0 < length e.ext_ack
  payload_copy_takes_memory (payload.DumpExtAck e) = 0 < length e.ext_ack
  payload_copy_takes_memory payload.Empty = ⊥

  -- a router's error: where copying its message does, or where it has a text or attributes
  abbrev pub error_copy_takes_memory : RouterError K P → Type 0
  error_copy_takes_memory (router.Msg text) = 0 < length text
  error_copy_takes_memory (router.De e) = de_copy_takes_memory e
  error_copy_takes_memory (router.Socket e) = socket_copy_takes_memory e
  error_copy_takes_memory (router.Nlmsgerr e) = answer_copy_takes_memory (λ m. takes m.payload.0) e
  error_copy_takes_memory (router.Capped e) = 0 < length e.ext_ack
  error_copy_takes_memory (router.BadSeqOrPid m) = payload_copy_takes_memory m.payload
  error_copy_takes_memory e = ⊥
