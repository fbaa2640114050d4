-- What the tables read of a message, said of the message.
use Rattle.std.proofs.Common.{◌≡◌, ◌∙◌, ℕ, true, List, Some, ap, sym}
use Rattle.neli_consts.specs.declared.nlm_f.NlmF.{NlmF}
use Rattle.neli_tables.specs.declared.tables.Tables.{Tables}
use Rattle.neli_reader.specs.Headers.{flags_of}
use Rattle.neli_tables_walk.specs.Bodies.{BodySeen, body_in, body_items}
use Rattle.neli_tables_write.specs.declared.request.Written.{Written}
use Rattle.neli_tables_write.specs.Asked.{AskedSeen, says}
use Rattle.neli_tables_write.specs.Requests.{IsMessage, body_of, message_name}

-- a body of the same flags and the same payload is the same
pub body_is : (tables : Tables) (protocol : ℕ) (w : Written) (flags : NlmF) (payload : List ℕ) → flags ≡ flags_of w.flags
    → payload ≡ w.payload.items
    → body_in tables (record { protocol = protocol; message_type = w.message_type; flags = flags }) payload
    ≡ body_of tables protocol w
body_is tables protocol w flags payload same bytes =
    ap (λ (f : NlmF). body_in tables (record { protocol = protocol; message_type = w.message_type; flags = f }) payload)
    same
    ∙ ap (body_in tables (record { protocol = protocol; message_type = w.message_type; flags = flags_of w.flags })) bytes

-- what the tables read as one of this name, with what was asked for, is such a message
pub message_is : (tables : Tables) (protocol : ℕ) (name : List ℕ) (w : Written) (body : BodySeen)
    (asked : List AskedSeen) → body ≡ body_of tables protocol w → message_name body ≡ Some name
    → says (body_items body) asked ≡ true → IsMessage tables protocol name w
message_is tables protocol name w body asked is named said = (
  ap message_name (sym is) ∙ named,
  (asked, ap (λ (b : BodySeen). says (body_items b) asked) (sym is) ∙ said),
)
