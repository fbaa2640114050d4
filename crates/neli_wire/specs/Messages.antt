-- The texts of messages.
use Rattle.std.specs.Prelude.{ℕ, List, ◌++◌, string_bytes, codes}
use Rattle.neli_wire.specs.declared.message.Text.{Text}
use Rattle.neli_wire.specs.declared.message.Text.TheVariants.{Fixed, Owned, Uninitialized}
use Rattle.neli_wire.specs.declared.message.UninitializedFieldError.{UninitializedFieldError}

-- the text that reports a builder's missing field
abbrev pub uninitialized : List ℕ → List ℕ
uninitialized name = codes "`" ++ name ++ codes "` must be initialized"

-- the name of a missing field
abbrev pub name_of : UninitializedFieldError → List ℕ
name_of e = e.field_name.now

-- the text of a message
abbrev pub text_of : Text → List ℕ
text_of (Fixed text) = text.now
text_of (Owned text) = string_bytes text
text_of (Uninitialized name) = uninitialized name.now
