use Rattle.std.proofs.Common.{◌∙◌}
use Rattle.neli_show.proofs.Numerals.{number_is}
use Rattle.neli_show.proofs.family.number_of.Goals as goal

pub returns : goal.returns
returns c = c.ok.ensures.value ∙ number_is c.args.word.now c.parse.result c.parse.ensures.value.0
