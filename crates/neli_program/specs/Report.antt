-- The printed text of the outcomes of a script.
use Rattle.std.specs.Prelude.{ℕ, ◌+◌, List, [], ◌∷◌, ◌++◌, codes, Ok, Err}
use Rattle.std.specs.Fmt.{decimal, signed_decimal}
use Rattle.std.specs.declared.io.ErrorKind.TheVariants.{ConnectionReset, UnexpectedEof}
use Rattle.hex.specs.Hex.{encode_lower}
use Rattle.neli_wire.specs.declared.errors.DeError.{DeError}
use Rattle.neli_wire.specs.declared.errors.DeError.TheVariants as de
use Rattle.neli_reader.specs.Messages.{message_of}
use Rattle.neli_reader.specs.RouterError.{RouterError}
use Rattle.neli_reader.specs.RouterError.TheVariants as router
use Rattle.neli_reader.specs.SocketError.TheVariants as socket
use Rattle.neli_runs.specs.declared.command.Outcome.{Outcome}
use Rattle.neli_runs.specs.declared.command.Outcome.TheVariants as outcome
use Rattle.neli_program.specs.Listing.{line_of}

-- the outcome of a command of a script: types are numbers, payloads bytes
abbrev pub RawOutcome : Type 0
RawOutcome = Outcome ℕ (List ℕ) ℕ (List ℕ)

-- an error in such an outcome
abbrev pub RawError : Type 0
RawError = RouterError ℕ (List ℕ)

-- why bytes were not read
abbrev pub fault_text : DeError → List ℕ
fault_text (de.InvalidInput n) = codes "input " ++ decimal n
fault_text (de.Io UnexpectedEof) = codes "short"
fault_text e = codes "other"

-- why an item is no message
abbrev pub error_text : RawError → List ℕ
error_text router.NoAck = codes "noack"
error_text router.UnexpectedAck = codes "unexpectedack"
error_text (router.Nlmsgerr answer) = codes "netlink " ++ signed_decimal answer.error
error_text (router.Capped answer) = codes "capped " ++ signed_decimal answer.error
error_text (router.BadSeqOrPid m) =
    codes "stray number " ++ (decimal m.header.sequence_number
    ++ (codes " port " ++ decimal m.header.port))
error_text (router.De fault) = fault_text fault
error_text (router.Socket (socket.De fault)) = fault_text fault
error_text (router.Socket (socket.Io ConnectionReset)) = codes "link reset"
error_text (router.Socket e) = codes "link other"
error_text (router.Msg text) = codes "length"
error_text (router.Io kind) = codes "link other"
error_text router.ClosedChannel = codes "closed"
error_text (router.SeqInUse n) = codes "in use " ++ decimal n
error_text router.Memory = codes "memory"

-- why nothing is sent
abbrev pub refusal_text : RawError → List ℕ
refusal_text (router.SeqInUse n) = codes "in use " ++ decimal n
refusal_text (router.Msg text) = codes "length"
refusal_text e = codes "other"

-- the text of an outcome; the handle is that of the last request
abbrev pub outcome_text : ℕ → RawOutcome → List ℕ
outcome_text handle outcome.Done = codes "ok"
outcome_text handle (outcome.Sent bytes) =
    codes "sent " ++ (decimal handle ++ (codes " " ++ encode_lower bytes.items))
outcome_text handle (outcome.NotSent e) = codes "refused " ++ refusal_text e
outcome_text handle (outcome.Item (Ok m)) = codes "item " ++ line_of (message_of (λ b. b) m)
outcome_text handle (outcome.Item (Err e)) = codes "error " ++ error_text e
outcome_text handle outcome.End = codes "end"
outcome_text handle outcome.Waits = codes "waits"
outcome_text handle outcome.NoHandle = codes "no handle"

-- the number of requests that a command with this outcome sent
abbrev pub sends : RawOutcome → ℕ
sends (outcome.Sent bytes) = 1
sends o = 0

-- a line for each outcome, after so many requests
abbrev pub report : ℕ → List RawOutcome → List ℕ
report before [] = []
report before (o ∷ os) =
    outcome_text (before + sends o) o ++ (codes "\n" ++ report (before + sends o) os)
