use Rattle.std.proofs.Common.{◌≡◌, true, rules}
use Rattle.neli_program.specs.Words.{is_numeral}
use Rattle.neli_program.proofs.Numerals.{numeral_from, text_of_numeral}
use Rattle.neli_program.proofs.words.numeral.Goals as goal

pub returns : goal.returns
returns c =
    let is : is_numeral c.args.word.now ≡ true = numeral_from c.args.word.now (search rules) (search rules) in
    rw c.ok.ensures.value (text_of_numeral _ c.args.word.now c.from_utf8.result is c.from_utf8.ensures.cases)
