use Rattle.std.proofs.Common.{◌≡◌, ℕ, List, Option, IfSome, ap, subst, ◌∙◌}
use Rattle.neli_show.specs.declared.request.Request.{Request}
use Rattle.std.specs.Option.{option_map}
use Rattle.neli_show.specs.Lines.{WritesInput}
use Rattle.neli_show.specs.Runs.{IsShown, family_word}
use Rattle.neli_show.proofs.Shown.{on_some, shown-lines}
use Rattle.neli_show.proofs.run.run.Goals.{in-Ok-Show, in-Ok-Tell, in-Err}
use Rattle.neli_show.proofs.run.run.Goals as goal

pub returns-clause-shown : goal.returns-clause-shown
returns-clause-shown g c = λ request asked output input memory.
    let any = c.asked.ensures.any in
    elim c.match-asked.branch [
      | in-Ok-Show w ↦
          let is = w.in-Ok-Show.is in
          let same : w.in-Ok-Show.request ≡ request = cc in
          let old = g.W.Write.contents c.args.out.now in
          let new = g.W.Write.contents w.show-status.new.out in
          let there = g.R.Read.remaining c.args.input.now in
          let shown =
          w.show-status.ensures.shown (λ e. output (w.status-is ∙ e)) (λ e. input (w.status-is ∙ e))
          (λ e. memory (w.status-is ∙ e)) in
          rw (w.out-is, w.status-is)
          (subst (λ (r : Request). IfSome there
          (λ (bytes : List ℕ). IsShown r (family_word c.args.words.now) bytes old new
          w.show-status.result)) same
          (subst (λ (word : Option (List ℕ)). IfSome there
          (λ (bytes : List ℕ). IsShown w.in-Ok-Show.request word bytes old new w.show-status.result))
          w.family_word.ensures
          shown))
      | in-Ok-Tell w ↦ let is = w.in-Ok-Tell.is in absurd cc
      | in-Err w ↦ let is = w.in-Err.is in absurd cc
    ]

pub returns-clause-lines : goal.returns-clause-lines
returns-clause-lines g c = λ request asked json output input memory.
    let any = c.asked.ensures.any in
    elim c.match-asked.branch [
      | in-Ok-Show w ↦
          let is = w.in-Ok-Show.is in
          let same : w.in-Ok-Show.request ≡ request = cc in
          let old = g.W.Write.contents c.args.out.now in
          let new = g.W.Write.contents w.show-status.new.out in
          let word = option_map (λ w. w.now) w.family_word.result in
          let shown =
          w.show-status.ensures.shown (λ e. output (w.status-is ∙ e)) (λ e. input (w.status-is ∙ e))
          (λ e. memory (w.status-is ∙ e)) in
          rw w.out-is
          (on_some (λ (bytes : List ℕ). IsShown w.in-Ok-Show.request word bytes old new
          w.show-status.result)
          (λ (bytes : List ℕ). WritesInput bytes old new) (g.R.Read.remaining c.args.input.now)
          (λ bytes s. shown-lines w.in-Ok-Show.request word bytes old new w.show-status.result
          (ap (λ (r : Request). r.output) same ∙ json) s) shown)
      | in-Ok-Tell w ↦ let is = w.in-Ok-Tell.is in absurd cc
      | in-Err w ↦ let is = w.in-Err.is in absurd cc
    ]
