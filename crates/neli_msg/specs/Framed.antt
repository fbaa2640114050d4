-- Messages as contracts see them: a header and what it carries.
use Rattle.neli_msg.specs.declared.echo.Echoed.{Echoed}
use Rattle.neli_msg.specs.declared.framed.Framed.{Framed}
use Rattle.neli_msg.specs.declared.payload.NlPayload.{NlPayload}

-- a message: it carries a payload of one of the kinds
abbrev pub Nlmsghdr : Type 0 → Type 0 → Type 0
Nlmsghdr K P = Framed K (NlPayload K P)

-- an echoed message: it carries a body
abbrev pub NlmsghdrErr : Type 0 → Type 0 → Type 0
NlmsghdrErr K P = Framed K (Echoed P)
