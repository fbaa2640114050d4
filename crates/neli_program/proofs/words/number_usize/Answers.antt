use Rattle.std.proofs.Common.{◌∙◌}
use Rattle.neli_program.proofs.Numerals.{number_is}
use Rattle.neli_program.proofs.words.number_usize.Goals as goal

pub returns : goal.returns
returns c =
    let text = c.in_ok-numeral.ensures in
    c.ok.ensures.value ∙ number_is 64 c.args.word.now c.parse.result text.1 (rw text.0 at c.parse.ensures.value.0)
