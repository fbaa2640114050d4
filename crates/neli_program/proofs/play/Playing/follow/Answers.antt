use Rattle.neli_program.proofs.Scripts.{all_followed}
use Rattle.neli_program.proofs.play.Playing.follow.Goals as goal

pub returns-in-Some : goal.returns-in-Some
returns-in-Some g c = record {
  follows = all_followed _ _ _ _ _ _ _ _ _ _ _ _ c.perform.result c.args.entry c.in_ok-command-in_default.field-0
      c.in-Some.command c.in_ok-command-in_default.ensures.command c.in-Some.is c.perform.ensures.performs;
  within = c.perform.ensures.within;
  memory = c.perform.ensures.memory;
}
