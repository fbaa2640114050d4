-- Why the kernel refused a request, as it is printed.
use Rattle.std.specs.Prelude.{ℕ, ℤ, unsigned_abs, List, ◌++◌, Option}
use Rattle.std.specs.Option.{option_map}
use Rattle.neli_tables_walk.specs.Bodies.{BodySeen, body_in}
use Rattle.neli_tables_check.specs.Diagnoses.{about_text, allowed_of, missing_of, value_of}
use Rattle.neli_tables_check.specs.Refusals.{place_of, refusal_text, text_of}
use Rattle.neli_c_parts.specs.declared.families.Families.{Families}
use Rattle.neli_c_parts.specs.declared.message.NeliMessage.{NeliMessage}
use Rattle.neli_c_parts.specs.Named.{At, at_text, at_with}
use Rattle.neli_c_parts.specs.Printed.{PrintsMessage}
use Rattle.neli_c_parts.specs.Tables.{head_of}

-- the attribute of a request that an acknowledgement with these attributes is about
abbrev pub at_of : BodySeen → List ℕ → Option At
at_of body ext_ack = at_with body.0 (place_of body ext_ack)

-- a refusal of a request in a line: its number, the kernel's text, the attribute that it is about, the value that was
-- sent, what the policy allows, and what is missing
abbrev pub diagnosis_text : BodySeen → ℤ → List ℕ → List ℕ
diagnosis_text body error ext_ack =
    refusal_text (unsigned_abs error) (text_of ext_ack) (option_map at_text (at_of body ext_ack))
    ++ about_text body.0 (value_of body ext_ack) (allowed_of ext_ack) (missing_of body ext_ack)

-- the same of a message of these tables
abbrev pub diagnosis_line : Families → ℕ → NeliMessage → ℤ → List ℕ → List ℕ → List ℕ
diagnosis_line s protocol m error ext_ack payload =
    diagnosis_text (body_in s.tables (head_of protocol m) payload) error ext_ack

abbrev pub Diagnoses : ℤ → ℕ → NeliMessage → Option (List ℕ) → ℤ → List ℕ → Families → List ℕ → List ℕ → ℕ → ℕ
    → Type 0
Diagnoses code protocol m payload error ext_ack s old new size size' =
    PrintsMessage code (diagnosis_line s protocol m error ext_ack) payload old new size size'
