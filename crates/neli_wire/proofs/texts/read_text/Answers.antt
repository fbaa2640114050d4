use Rattle.std.proofs.Common.{◌≡◌, ◌-◌, ◌∙◌, length, take, false, ltb, arith}
use Rattle.std.specs.Prelude.{string_bytes}
use Rattle.std.proofs.lemmas.Bool.{le-ltb}
use Rattle.neli_wire.specs.laws.Strings.{utf8_of-text}
use Rattle.neli_wire.specs.declared.errors.Utf8.TheVariants.{String as OfString}
use Rattle.neli_wire.proofs.texts.read_text.Goals as goal

pub returns-in_ok-from_str-in-Ok-clause-value : goal.returns-in_ok-from_str-in-Ok-clause-value
returns-in_ok-from_str-in-Ok-clause-value c =
    let n = length c.args.bytes.now - 1 in
    let body = take n c.args.bytes.now in
    let same : string_bytes c.in_ok-from_str-in-Ok.field-0 ≡ body = c.in_ok-from_str-in-Ok.ensures.ok
    ∙ c.in-Ok.ensures.cases.0 in
    let some : ltb (length c.args.bytes.now) 1 ≡ false = le-ltb _ _ (omega arith) in
    rw (same, some) (utf8_of-text OfString body c.in-Ok.ensures.cases.1)
