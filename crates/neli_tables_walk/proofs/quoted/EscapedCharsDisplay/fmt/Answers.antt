use Rattle.std.proofs.Common.{◌++◌, rules}
use Rattle.std.proofs.Output.{has_written_append, has_written_of_eq}
use Rattle.std.proofs.lemmas.Str.{IsUtf8-past_char}
use Rattle.neli_tables_walk.specs.Quoted.{escaped_char}
use Rattle.neli_tables_walk.proofs.ValueTexts.{escaped_step, escaped_end}
use Rattle.neli_tables_walk.proofs.quoted.EscapedCharsDisplay.fmt.Goals as goal

pub loop-c-preserved : goal.loop-c-preserved
loop-c-preserved g c =
    let text = c.loop-c.invariant.0 in (
      IsUtf8-past_char _ _ c.in-Some.c text c.in-Some.ensures.steps.0,
      λ plain.
          let i = c.loop-c.invariant.1 plain in (
            i.0 ++ escaped_char c.in-Some.c,
            has_written_append _ _ _ _ _ _ i.1 (search rules),
            escaped_step i.0 _ _ _ c.in-Some.c text c.in-Some.ensures.steps.0 i.2,
          ),
    )

pub returns-clause-writes : goal.returns-clause-writes
returns-clause-writes g c = λ plain _.
    let i = c.loop-c.invariant.1 plain in
    has_written_of_eq _ _ _ _ _ (escaped_end i.0 _ _ (search rules) i.2) i.1
