use Rattle.std.proofs.Common.{List, [], ◌∷◌, ◌++◌, ap, subst, sym, ◌∙◌}
use Rattle.neli_session.specs.declared.queue.Entry.{Entry}
use Rattle.neli_session.specs.declared.queue.Entry.TheVariants as entry
use Rattle.neli_session.specs.Messages.{messages_of}
use Rattle.neli_session.specs.Waiting.{AreFilled, entries_in}
use Rattle.neli_session.proofs.Queues.{filled-last, some-items}
use Rattle.neli_session.proofs.queue.Queue.add.Goals as goal

pub invariant_of-self-2 : goal.invariant_of-self-2
invariant_of-self-2 c =
    let es = entries_in c.self.inside.front c.self.inside.later.items in
    let ms = messages_of c.args.bytes.now in (
      c.push.ensures.fronted,
      subst (λ (fs : List Entry). AreFilled fs) (sym (c.in_ok-push.ensures.pushed
          ∙ ap (λ ns. es ++ entry.Messages ns ∷ []) c.in_ok-chunk.ensures))
          (filled-last es (entry.Messages ms) c.self.invariant.1 (some-items ms c.requires.1)),
    )
