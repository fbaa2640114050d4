use Rattle.std.proofs.Common.{◌∙◌, List, [], ◌∷◌, ◌++◌, ap, map, rules, sym, take, ℕ}
use Rattle.neli_reader.specs.Cuts.{Cut}
use Rattle.neli_lent.specs.Messages.{Lent, message_view}
use Rattle.neli_session.specs.declared.entry.Entry.{Entry}
use Rattle.neli_session.specs.Mails.{entries_of, entry_of}
use Rattle.neli_session.specs.Messages.{messages_of}
use Rattle.neli_session.proofs.Datagrams.{fault-messages, front-messages}
use Rattle.neli_session.proofs.Entries.{entries-last}
use Rattle.neli_session.proofs.Messages.{none-there}
use Rattle.neli_session.proofs.entry.entries_in.Goals as goal

pub loop-place-init : goal.loop-place-init
loop-place-init c = record {
  within = search rules;
  whole = ap (λ (cut : Cut (Lent ℕ)). cut.1) none-there;
  entries = c.new-entries.ensures.items
      ∙ sym (ap (λ (cut : Cut (Lent ℕ)). map (entry_of c.args.protocol c.args.by) cut.0) none-there);
}

pub loop-place-preserved : goal.loop-place-preserved
loop-place-preserved c =
    let m : Lent ℕ = message_view c.in-Ok.message in
    let inv = c.loop-place.invariant in
    let front = take c.loop-place.place c.args.requests.now in
    let more = front-messages c.args.requests.now c.in-Ok.span.now c.loop-place.place m inv.within c.in-Ok.ensures.span
    inv.whole c.in-Ok.ensures.message in
    record {
      within = c.in-Ok.ensures.within;
      whole = ap (λ (cut : Cut (Lent ℕ)). cut.1) more;
      entries = c.in_ok-push.ensures.items ∙ ap (λ (es : List Entry). es ++ c.of.result ∷ []) inv.entries
          ∙ ap (λ (e : Entry). entries_of c.args.protocol c.args.by front ++ e ∷ []) c.of.ensures
          ∙ sym (entries-last c.args.protocol c.args.by (messages_of front) m)
          ∙ sym (ap (λ (cut : Cut (Lent ℕ)). map (entry_of c.args.protocol c.args.by) cut.0) more);
    }

pub returns-in_default-clause-faulty : goal.returns-in_default-clause-faulty
returns-in_default-clause-faulty c = λ none. (
  c.in_default.field-0,
  ap (λ (cut : Cut (Lent ℕ)). cut.1) (fault-messages c.args.requests.now c.loop-place.place
      c.in_default.field-0 c.loop-place.invariant.whole c.in_default.ensures.fault),
)
