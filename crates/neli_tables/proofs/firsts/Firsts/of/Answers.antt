use Rattle.std.proofs.Common.{◌∙◌, ◌∷◌, [], sym, arith, length-append}
use Rattle.neli_tables.specs.Index.{finds}
use Rattle.neli_tables.proofs.Noted.{noted_more}
use Rattle.neli_tables.proofs.firsts.Firsts.of.Goals as goal

pub loop-place-preserved : goal.loop-place-preserved
loop-place-preserved c = rw c.in_ok-push.ensures.items (
  omega (arith, c.loop-place.invariant.0, length-append c.loop-place.keys.items (c.first_key.result ∷ [])),
  noted_more (finds c.args.index.now) _ _ _ c.loop-place.invariant.1 c.loop-place.invariant.0 c.first_key.ensures,
)

pub returns : goal.returns
returns c = λ place key e. sym (c.requires key) ∙ c.loop-place.invariant.1 place key e
