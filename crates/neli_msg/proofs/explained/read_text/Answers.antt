use Rattle.std.proofs.Common.{◌≡◌, ◌-◌, length, take, false, ltb, arith}
use Rattle.std.proofs.lemmas.Bool.{le-ltb}
use Rattle.neli_wire.specs.laws.Strings.{utf8_of-text}
use Rattle.neli_wire.specs.declared.errors.Utf8.TheVariants.{String as OfString}
use Rattle.neli_msg.proofs.explained.read_text.Goals as goal

pub returns-in-Ok-clause-value : goal.returns-in-Ok-clause-value
returns-in-Ok-clause-value c =
    let n = length c.args.payload.now - 1 in
    let body = take n c.args.payload.now in
    let same : c.in-Ok.text.now ≡ body = c.in-Ok.ensures.cases.0 in
    let some : ltb (length c.args.payload.now) 1 ≡ false = le-ltb _ _ (omega arith) in
    rw (same, some) (utf8_of-text OfString body c.in-Ok.ensures.cases.1)
