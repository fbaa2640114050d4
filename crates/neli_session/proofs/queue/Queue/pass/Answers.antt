use Rattle.std.proofs.Common.{◌≡◌, List, ◌∷◌, ◌++◌, Option, Some, ap, subst, sym, ◌∙◌}
use Rattle.neli_session.specs.declared.noted.Noted.{Noted}
use Rattle.neli_session.specs.declared.queue.Entry.{Entry}
use Rattle.neli_session.specs.Waiting.{AreFilled, all_items, entries_in, items_of}
use Rattle.neli_session.proofs.Queues.{first-filled, front-gone, front-item, front-left, rest-filled, some-waits}
use Rattle.neli_session.proofs.queue.Queue.pass.Goals as goal

pub invariant_of-self-else-is_last : goal.invariant_of-self-else-is_last
invariant_of-self-else-is_last c =
    let filled = first-filled c.self.inside.front c.self.inside.later.items c.in-Some.entry c.in-Some.is c.self.invariant.1 in (
      tt,
      (
        rest-filled (items_of c.in-Some.entry) (items_of c.pass_in-is_last.new.entry) filled.0
            (λ item later at. c.pass_in-is_last.ensures.rest item later at c.if-is_last.false),
        filled.1,
      ),
    )

pub invariant_of-self-then-is_last : goal.invariant_of-self-then-is_last
invariant_of-self-then-is_last c =
    let filled = first-filled c.self.inside.front c.self.inside.later.items c.in-Some.entry c.in-Some.is c.self.invariant.1 in (
      c.advance.ensures.fronted,
      subst (λ (es : List Entry). AreFilled es) (sym c.advance.ensures.rest) filled.1,
    )

pub returns-then-is_last-clause-passed : goal.returns-then-is_last-clause-passed
returns-then-is_last-clause-passed c = λ item later at.
    let e = c.in-Some.entry in
    let es = c.self.inside.later.items in
    let filled = first-filled c.self.inside.front es e c.in-Some.is c.self.invariant.1 in
    let all : items_of e ++ all_items es ≡ item ∷ later =
    ap (λ (f : Option Entry). all_items (entries_in f es)) (sym c.in-Some.is) ∙ c.self.view_is ∙ at in
    let first = front-item (items_of e) (all_items es) item later filled.0 all in (
      ap (λ (xs : List Entry). all_items xs) c.advance.ensures.rest
          ∙ front-gone e es item later filled.0 (λ x xs is. c.pass_in-is_last.ensures.last x xs is c.if-is_last.true) all,
      ap (λ (r : Noted). Some r) (c.pass_in-is_last.ensures.noted item first.0 first.1),
    )

pub returns-then-is_last-clause-none : goal.returns-then-is_last-clause-none
returns-then-is_last-clause-none c = λ none.
    absurd (some-waits c.self.inside.front c.self.inside.later.items c.in-Some.entry c.in-Some.is c.self.invariant.1
    (c.self.view_is ∙ none))

pub returns-else-is_last-clause-passed : goal.returns-else-is_last-clause-passed
returns-else-is_last-clause-passed c = λ item later at.
    let e = c.in-Some.entry in
    let es = c.self.inside.later.items in
    let filled = first-filled c.self.inside.front es e c.in-Some.is c.self.invariant.1 in
    let all : items_of e ++ all_items es ≡ item ∷ later =
    ap (λ (f : Option Entry). all_items (entries_in f es)) (sym c.in-Some.is) ∙ c.self.view_is ∙ at in
    let first = front-item (items_of e) (all_items es) item later filled.0 all in (
      front-left e c.pass_in-is_last.new.entry es item later filled.0
          (λ x xs is. (c.pass_in-is_last.ensures.rest x xs is c.if-is_last.false).0) all,
      ap (λ (r : Noted). Some r) (c.pass_in-is_last.ensures.noted item first.0 first.1),
    )

pub returns-else-is_last-clause-none : goal.returns-else-is_last-clause-none
returns-else-is_last-clause-none c = λ none.
    absurd (some-waits c.self.inside.front c.self.inside.later.items c.in-Some.entry c.in-Some.is c.self.invariant.1
    (c.self.view_is ∙ none))
