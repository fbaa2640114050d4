-- Errors of a link: their sources, and their texts.
use Rattle.std.specs.Prelude.{ℕ, List, ◌++◌, codes, Option, Some, None}
use Rattle.std.specs.Option.{option_map}
use Rattle.neli_wire.specs.declared.errors.SerError.{SerError}
use Rattle.neli_wire.specs.declared.errors.SerError.TheVariants as ser
use Rattle.neli_wire.specs.declared.errors.DeError.{DeError}
use Rattle.neli_wire.specs.declared.errors.DeError.TheVariants as de
use Rattle.neli_wire.specs.ErrorTexts.{ser_text, de_text}
use Rattle.neli_msg.specs.declared.socket_error.SocketError.{SocketError}
use Rattle.neli_msg.specs.declared.socket_error.SocketError.TheVariants.{Msg, Ser, De, Io, Memory}

-- a refusal to write; `Memory` stays `Memory`
abbrev pub of_ser : SerError → SocketError
of_ser (ser.Msg text) = Ser (ser.Msg text)
of_ser (ser.Io kind) = Ser (ser.Io kind)
of_ser (ser.Utf8 error) = Ser (ser.Utf8 error)
of_ser ser.Memory = Memory

-- a refusal to read; `Memory` stays `Memory`
abbrev pub of_de : DeError → SocketError
of_de (de.Msg text) = De (de.Msg text)
of_de (de.Io kind) = De (de.Io kind)
of_de (de.Utf8 error) = De (de.Utf8 error)
of_de (de.InvalidInput n) = De (de.InvalidInput n)
of_de de.Memory = Memory

-- a text as an error; without a text memory ran out
abbrev pub socket_of_message : Option (List ℕ) → SocketError
socket_of_message (Some text) = Msg text
socket_of_message None = Memory

-- the text, where it is this library's; the standard library states those of an `Io` and a `Utf8`
abbrev pub socket_text : SocketError → Option (List ℕ)
socket_text (Msg text) = Some text
socket_text (Ser e) = option_map (λ text. codes "Serialization error: " ++ text) (ser_text e)
socket_text (De e) = option_map (λ text. codes "Deserialization error: " ++ text) (de_text e)
socket_text (Io kind) = None
socket_text Memory = Some (codes "Out of memory")
