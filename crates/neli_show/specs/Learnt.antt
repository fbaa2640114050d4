-- The numbers of generic netlink's families, as the controller's messages in an input say.
use Rattle.std.specs.Prelude.{◌≡◌, ℕ, List, [], ◌∷◌, Option, Some, None, Result, Ok, Err}
use Rattle.std.specs.Option.{unwrap_or}
use Rattle.neli_inputs.specs.declared.item.Item.{Item}
use Rattle.neli_inputs.specs.declared.item.Packet.{Packet}
use Rattle.neli_inputs.specs.declared.item.Refusal.{Refusal}
use Rattle.neli_lent.specs.Messages.{Lent, messages_in}
use Rattle.neli_lent.specs.Walks.{items_of}
use Rattle.neli_tables_walk.specs.Controller.{family_said, learnt_from}
use Rattle.neli_tables_walk.specs.declared.head.Head.{Head}
use Rattle.neli_tables_walk.specs.Built.{AreRead, built_in_headings}
use Rattle.neli_tables.specs.Families.{Lines, generic_in, learnt, learnt_as, tables_in}
use Rattle.neli_tables.specs.declared.tables.Tables.{Tables}
use Rattle.neli_wire.specs.declared.errors.DeError.{DeError}
use Rattle.neli_show.specs.Families.{family_in}
use Rattle.neli_show.specs.Parts.{packet_bytes}

-- the table that is known for a number after a family's
abbrev pub family_learnt : List Lines → ℕ → Option ℕ → Option (List ℕ × ℕ) → Option ℕ
family_learnt tables n before (Some family) =
    learnt_as family.1 (generic_in family.0 tables) n before
family_learnt tables n before None = before

-- the family that a word of the command line names, if there is one
abbrev pub word_family : Option (List ℕ) → Option (List ℕ × ℕ)
word_family (Some word) = family_in word
word_family None = None

-- after such a word
abbrev pub word_learnt : List Lines → ℕ → Option ℕ → Option (List ℕ) → Option ℕ
word_learnt tables n before (Some word) = family_learnt tables n before (family_in word)
word_learnt tables n before None = before

-- of a message
abbrev pub head_of : ℕ → Lent ℕ → Head
head_of protocol message = record {
  protocol = protocol;
  message_type = message.0.message_type;
  flags = message.0.flags;
}

-- the table that is known for a number after a message, or the fault after the messages
abbrev pub item_learnt : ℕ → List Lines → ℕ → Option ℕ → Result (Lent ℕ) DeError → Option ℕ
item_learnt protocol tables n before (Ok message) =
    learnt_from (family_said (head_of protocol message) message.1) tables n before
item_learnt protocol tables n before (Err e) = before

-- after several, in order
abbrev pub items_learnt : ℕ → List Lines → ℕ → Option ℕ → List (Result (Lent ℕ) DeError) → Option ℕ
items_learnt protocol tables n before [] = before
items_learnt protocol tables n before (item ∷ items) =
    items_learnt protocol tables n (item_learnt protocol tables n before item) items

-- after a datagram
abbrev pub datagram_learnt : ℕ → List Lines → ℕ → Option ℕ → List ℕ → Option ℕ
datagram_learnt protocol tables n before bytes =
    items_learnt protocol tables n before (items_of (messages_in (λ n. n) bytes))

-- after a part of an input
abbrev pub packet_learnt :
    ℕ → List Lines → List ℕ → ℕ → Option ℕ → Result Packet Refusal → Option ℕ
packet_learnt protocol tables bytes n before (Ok packet) =
    datagram_learnt (unwrap_or packet.family protocol) tables n before (packet_bytes bytes packet)
packet_learnt protocol tables bytes n before (Err refusal) = before

-- after an input
abbrev pub input_learnt : ℕ → List Lines → List ℕ → ℕ → Option ℕ → List Item → Option ℕ
input_learnt protocol tables bytes n before [] = before
input_learnt protocol tables bytes n before (item ∷ items) =
    input_learnt protocol tables bytes n (packet_learnt protocol tables bytes n before item.packet)
    items

-- the tables that an input is read by: those that are built in, with the numbers of families that
-- a word and the input have
abbrev pub AreTables : Option (List ℕ) → ℕ → List ℕ → List Item → Tables → Type 0
AreTables word protocol bytes items tables =
    AreRead built_in_headings (tables_in tables)
    × ((n : ℕ) → learnt tables n ≡ input_learnt protocol (tables_in tables) bytes n
    (word_learnt (tables_in tables) n None word) items)
