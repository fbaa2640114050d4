use Rattle.std.proofs.Common.{◌∙◌, ◌≡◌, ◌<◌, ◌≤◌, ◌-◌, List, [], Option, ap, arith, drop, length, length-drop, rules, subst, sym, take, ℕ}
use Rattle.std.proofs.lemmas.List.{take_all}
use Rattle.std.specs.Prelude.{is_some}
use Rattle.neli_reader.specs.Cuts.{Cut}
use Rattle.neli_lent.specs.Messages.{Lent, message_view}
use Rattle.neli_session.specs.Messages.{IsWhole, messages_of}
use Rattle.neli_session.specs.Readiness.{line_after, line_after_all, line_among, line_rest}
use Rattle.neli_session.specs.Sessions.{HaveCome, HaveComeBeforeLoss, after, after_all, among, at, gains, is_heard, is_unasked, share}
use Rattle.neli_session.specs.Sessions.{when}
use Rattle.neli_session.specs.declared.change.Change.TheVariants as change
use Rattle.neli_session.specs.declared.loss.Loss.TheVariants as loss
use Rattle.neli_session.proofs.Readiness.{among-same, line-more}
use Rattle.neli_session.proofs.Same.{same-again, same-at-first}
use Rattle.neli_session.proofs.Datagrams.{come-loss, come-more, come-none, fault-messages, front-messages}
use Rattle.neli_session.proofs.Messages.{none-there}
use Rattle.neli_session.proofs.Regrouped.{both-come}
use Rattle.neli_session.proofs.Runs.{front-run, line-run}
use Rattle.neli_session.proofs.session.Session.receive.Goals as goal

pub loop-place-init : goal.loop-place-init
loop-place-init c =
    let before = c.args.self.now in
    record {
      within = search rules;
      whole = ap (λ (cut : Cut (Lent ℕ)). cut.1) none-there;
      come = come-none before.port c.args.group c.args.is_joined (messages_of []) (at before.requests) before.multicast
          before.unasked (ap (λ (cut : Cut (Lent ℕ)). cut.0) none-there);
      line = sym (ap (λ (ms : List (Lent ℕ)). line_after_all before.port c.args.group ms (at before.requests) before.requests.line)
          (ap (λ (cut : Cut (Lent ℕ)). cut.0) none-there));
      sending = same-at-first before;
    }

pub loop-place-preserved-in-Ok-None : goal.loop-place-preserved-in-Ok-None
loop-place-preserved-in-Ok-None c =
    let before = c.args.self.now in
    let now = c.loop-place.self in
    let new = c.take_in.new.self in
    let m : Lent ℕ = message_view c.in-Ok.message in
    let group = c.args.group in
    let joined = c.args.is_joined in
    let inv = c.loop-place.invariant in
    let alone = c.in-Ok-None.ensures in
    let none = ap (λ (o : Option ℕ). is_some o) c.in-Ok-None.field-0-is in
    let front = take c.loop-place.place c.args.datagram.now in
    let more = front-messages c.args.datagram.now c.in-Ok.span.now c.loop-place.place m inv.within c.in-Ok.ensures.span
    inv.whole c.in-Ok.ensures.message in
    let own = λ (q : ℕ). alone.requests none q
    ∙ ap (λ (p : ℕ). after p group m q (at now.requests q)) inv.sending.0.1 in
    let heard = alone.multicast none
    ∙ ap (λ (p : ℕ). gains (share (is_heard p group joined m) m) now.multicast) inv.sending.0.1 in
    let unasked = alone.unasked none
    ∙ ap (λ (p : ℕ). gains (share (is_unasked p group (at now.requests) m) m) now.unasked) inv.sending.0.1 in
    let come = come-more before.port group joined (messages_of front) m (at before.requests) (at now.requests)
    (at new.requests) before.multicast now.multicast new.multicast before.unasked now.unasked new.unasked inv.come own
    heard unasked in
    record {
      within = c.in-Ok.ensures.within;
      whole = ap (λ (cut : Cut (Lent ℕ)). cut.1) more;
      come = subst (λ (ms : List (Lent ℕ)). HaveCome before.port group joined ms (at before.requests) (at new.requests)
          before.multicast new.multicast before.unasked new.unasked) (sym (ap (λ (cut : Cut (Lent ℕ)). cut.0) more)) come;
      line = line-more before.port group (messages_of front) m (at before.requests) (at now.requests) before.requests.line
          now.requests.line new.requests.line inv.come.requests inv.line
          (alone.line none
          ∙ ap (λ (p : ℕ). line_after p group m (at now.requests) now.requests.line) inv.sending.0.1)
          ∙ ap (λ (ms : List (Lent ℕ)). line_after_all before.port group ms (at before.requests) before.requests.line)
          (sym (ap (λ (cut : Cut (Lent ℕ)). cut.0) more));
      sending = same-again before now new inv.sending c.take_in.ensures.sending;
    }

pub loop-place-preserved : goal.loop-place-preserved
loop-place-preserved c =
    let before = c.args.self.now in
    let now = c.loop-place.self in
    let new = c.take_in.new.self in
    let group = c.args.group in
    let joined = c.args.is_joined in
    let inv = c.loop-place.invariant in
    let datagram = c.args.datagram.now in
    let place = c.loop-place.place in
    let taken = c.in-Ok-Some.taken in
    let all = take_all (length datagram - place) (drop place datagram) (omega (arith, length-drop place datagram)) in
    let run = subst (λ (xs : List ℕ). (0 < taken) × (taken ≤ length xs) × IsWhole (take taken xs)
    × HaveCome now.port group joined (messages_of (take taken xs)) (at now.requests) (at new.requests) now.multicast
    new.multicast now.unasked new.unasked
    × (new.requests.line ≡ line_after_all now.port group (messages_of (take taken xs)) (at now.requests) now.requests.line))
    all (rw c.in-Ok-Some.field-0-is at c.in-Ok-Some.ensures.run) in
    let ms = messages_of (take place datagram) in
    let ns = messages_of (take taken (drop place datagram)) in
    let more = front-run datagram place taken inv.within inv.whole run.2 in
    let came = subst (λ (p : ℕ). HaveCome p group joined ns (at now.requests) (at new.requests) now.multicast
    new.multicast now.unasked new.unasked) inv.sending.0.1 run.3 in
    let come = both-come before.port group joined ms ns (at before.requests) (at now.requests) (at new.requests)
    before.multicast now.multicast new.multicast before.unasked now.unasked new.unasked inv.come came in
    record {
      within = omega (arith, inv.within, run.1, length-drop place datagram);
      whole = ap (λ (cut : Cut (Lent ℕ)). cut.1) more;
      come = subst (λ (ks : List (Lent ℕ)). HaveCome before.port group joined ks (at before.requests) (at new.requests)
          before.multicast new.multicast before.unasked new.unasked) (sym (ap (λ (cut : Cut (Lent ℕ)). cut.0) more)) come;
      line = line-run before.port group ms ns (at before.requests) (at now.requests) before.requests.line
          now.requests.line new.requests.line inv.come.requests inv.line
          (run.4 ∙ ap (λ (p : ℕ). line_after_all p group ns (at now.requests) now.requests.line) inv.sending.0.1)
          ∙ ap (λ (ks : List (Lent ℕ)). line_after_all before.port group ks (at before.requests) before.requests.line)
          (sym (ap (λ (cut : Cut (Lent ℕ)). cut.0) more));
      sending = same-again before now new inv.sending c.take_in.ensures.sending;
    }

pub returns-in-Ok-lose-clause-whole : goal.returns-in-Ok-lose-clause-whole
returns-in-Ok-lose-clause-whole c = λ whole.
    let faulty = fault-messages c.args.datagram.now c.loop-place.place c.in_default.field-0 c.loop-place.invariant.whole
    c.in_default.ensures.fault in
    let none = sym (ap (λ (cut : Cut (Lent ℕ)). cut.1) faulty) ∙ whole in
    absurd cc

pub returns-in-Ok-lose-clause-faulty : goal.returns-in-Ok-lose-clause-faulty
returns-in-Ok-lose-clause-faulty c = λ e is.
    let before = c.args.self.now in
    let now = c.loop-place.self in
    let new = c.lose.new.self in
    let inv = c.loop-place.invariant in
    let faulty = fault-messages c.args.datagram.now c.loop-place.place c.in_default.field-0 inv.whole
    c.in_default.ensures.fault in
    let own = λ (q : ℕ). c.in-Ok-lose.ensures.requests q
    ∙ ap (λ (xs : List ℕ). among xs (when (change.Lose loss.Datagram)) q (at now.requests q)) (ap (λ v. v.items) inv.sending.2) in
    let come = come-loss before.port c.args.group c.args.is_joined
    (messages_of (take c.loop-place.place c.args.datagram.now)) before.awaited.items (at before.requests)
    (at now.requests) (at new.requests) before.multicast now.multicast new.multicast before.unasked now.unasked
    new.unasked inv.come own c.in-Ok-lose.ensures.multicast c.in-Ok-lose.ensures.unasked in
    subst (λ (ms : List (Lent ℕ)). HaveComeBeforeLoss before.port c.args.group c.args.is_joined ms before.awaited.items
    (at before.requests) (at new.requests) before.multicast new.multicast before.unasked new.unasked)
    (sym (ap (λ (cut : Cut (Lent ℕ)). cut.0) faulty)) come

pub returns-in-Ok-lose-clause-line : goal.returns-in-Ok-lose-clause-line
returns-in-Ok-lose-clause-line c =
    let before = c.args.self.now in
    let now = c.loop-place.self in
    let inv = c.loop-place.invariant in
    let port = before.port in
    let group = c.args.group in
    let lost = when (change.Lose loss.Datagram) in
    let awaited = before.awaited.items in
    let ms = messages_of (take c.loop-place.place c.args.datagram.now) in
    let rs = λ (q : ℕ). after_all port group ms q (at before.requests q) in
    let faulty = fault-messages c.args.datagram.now c.loop-place.place c.in_default.field-0 inv.whole
    c.in_default.ensures.fault in
    c.in-Ok-lose.ensures.line
    ∙ ap (λ (xs : List ℕ). line_among xs lost (at now.requests) now.requests.line) (ap (λ v. v.items) inv.sending.2)
    ∙ among-same awaited lost (at now.requests) rs now.requests.line inv.come.requests
    ∙ ap (λ (line : List ℕ). line_among awaited lost rs line) inv.line
    ∙ sym (ap (λ (cut : Cut (Lent ℕ)). line_rest cut.1 awaited (λ q. after_all port group cut.0 q (at before.requests q))
    (line_after_all port group cut.0 (at before.requests) before.requests.line)) faulty)
