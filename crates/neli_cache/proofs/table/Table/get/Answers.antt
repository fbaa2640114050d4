use Rattle.std.proofs.Common.{ap, sym, ◌∙◌, Some}
use Rattle.std.specs.Prelude.{option_map}
use Rattle.neli_cache.specs.Tables.{at}
use Rattle.neli_cache.proofs.Keyed.{at-shown}
use Rattle.neli_cache.proofs.table.Table.get.Goals as goal

pub returns-in-None : goal.returns-in-None
returns-in-None c = ap (option_map (λ v. v.items)) c.in-None.ensures.value
    ∙ sym (at-shown c.args.key.now c.self.inside.entries.entries) ∙ ap (at c.args.key.now) c.self.view_is

pub returns-in-Some : goal.returns-in-Some
returns-in-Some c = ap Some c.as_slice.ensures.value ∙ ap (option_map (λ v. v.items)) c.in-Some.ensures.value
    ∙ sym (at-shown c.args.key.now c.self.inside.entries.entries) ∙ ap (at c.args.key.now) c.self.view_is
