-- Errors of builders: their texts, and the errors that they become.
use Rattle.std.specs.Prelude.{ℕ, List, Option, Some, None}
use Rattle.neli_wire.specs.declared.errors.DeError.{DeError}
use Rattle.neli_wire.specs.declared.errors.DeError.TheVariants as de
use Rattle.neli_attr.specs.Builders.{error_text, message_in}
use Rattle.neli_reader.specs.declared.builder_error.BuilderError.{BuilderError}
use Rattle.neli_reader.specs.declared.builder_error.BuilderError.TheVariants.{Nlmsghdr, Nlmsgerr, NlmsghdrErr}
use Rattle.neli_reader.specs.declared.builder_error.BuilderError.TheVariants.{NlmsghdrAck, AttrType, Nlattr}
use Rattle.neli_reader.specs.declared.builder_error.BuilderError.TheVariants.{Rtattr, Genlmsghdr, Ifinfomsg}
use Rattle.neli_reader.specs.declared.builder_error.BuilderError.TheVariants.{Ifaddrmsg, Rtgenmsg, Rtmsg}
use Rattle.neli_reader.specs.declared.builder_error.BuilderError.TheVariants.{Ndmsg, NdaCacheinfo, Tcmsg}

-- the text of an error; none where memory ran out
abbrev pub message_of : BuilderError → Option (List ℕ)
message_of (Nlmsghdr e) = message_in e
message_of (Nlmsgerr e) = message_in e
message_of (NlmsghdrErr e) = message_in e
message_of (NlmsghdrAck e) = message_in e
message_of (AttrType e) = message_in e
message_of (Nlattr e) = message_in e
message_of (Rtattr e) = message_in e
message_of (Genlmsghdr e) = message_in e
message_of (Ifinfomsg e) = message_in e
message_of (Ifaddrmsg e) = message_in e
message_of (Rtgenmsg e) = message_in e
message_of (Rtmsg e) = message_in e
message_of (Ndmsg e) = message_in e
message_of (NdaCacheinfo e) = message_in e
message_of (Tcmsg e) = message_in e

-- the text that it prints
abbrev pub builder_text : BuilderError → List ℕ
builder_text (Nlmsghdr e) = error_text e
builder_text (Nlmsgerr e) = error_text e
builder_text (NlmsghdrErr e) = error_text e
builder_text (NlmsghdrAck e) = error_text e
builder_text (AttrType e) = error_text e
builder_text (Nlattr e) = error_text e
builder_text (Rtattr e) = error_text e
builder_text (Genlmsghdr e) = error_text e
builder_text (Ifinfomsg e) = error_text e
builder_text (Ifaddrmsg e) = error_text e
builder_text (Rtgenmsg e) = error_text e
builder_text (Rtmsg e) = error_text e
builder_text (Ndmsg e) = error_text e
builder_text (NdaCacheinfo e) = error_text e
builder_text (Tcmsg e) = error_text e

-- a text as an error; without a text memory ran out
abbrev pub de_of_message : Option (List ℕ) → DeError
de_of_message (Some text) = de.Msg text
de_of_message None = de.Memory
