use Rattle.std.proofs.Common.{◌≡◌, ◌∙◌, length, take, ltb, false, refl}
use Rattle.std.proofs.lemmas.Bool.{le-ltb}
use Rattle.neli_wire.specs.laws.Strings.{utf8_of-text}
use Rattle.neli_wire.specs.declared.errors.Utf8.TheVariants.{Str as OfStr}
use Rattle.neli_wire.proofs.texts.RefStrFromBytesWithInputBorrowed.from_bytes_with_input.Goals as goal

pub returns-in-Ok-clause-value : goal.returns-in-Ok-clause-value
returns-in-Ok-clause-value c =
    let enough : ltb (length c.args.cursor.now.rest) c.args.n ≡ false = le-ltb _ _ c.in_ok-bytes.ensures.within in
    let same : c.in-Ok.text.now ≡ take c.args.n c.args.cursor.now.rest = c.in-Ok.ensures.cases.0
    ∙ c.in_ok-bytes.ensures.value in
    rw (enough, same, ← c.in_ok-bytes.ensures.value, utf8_of-text OfStr _ c.in-Ok.ensures.cases.1) refl
