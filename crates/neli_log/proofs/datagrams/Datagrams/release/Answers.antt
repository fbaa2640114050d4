use Rattle.std.proofs.Common.{arith, refl, ◌<◌, deque_len}
use Rattle.neli_log.proofs.Named.{front_is, released_pop, released_set, text_popped, text_set}
use Rattle.neli_log.proofs.datagrams.Datagrams.release.Goals as goal

pub returns-then-spans-eq1-clause-names : goal.returns-then-spans-eq1-clause-names
returns-then-spans-eq1-clause-names c = λ s ss h.
    let q = c.args.self.now.list in
    let v : 0 < deque_len q = c.in-Some.ensures.variant.0 refl in
    let f = front_is q.items c.in-Some.datagram.now (omega (arith, q.ok.0)) c.in-Some.ensures.lookup in
    released_pop c.args.self.now.first c.in-Some.datagram.now f.0 q.items c.pop_front.new.self.items s ss f.1
    c.pop_front.ensures.rest c.if-spans-eq1.true h

pub returns-else-spans-eq1-clause-names : goal.returns-else-spans-eq1-clause-names
returns-else-spans-eq1-clause-names c = λ s ss h.
    let q = c.args.self.now.list in
    let v : 0 < deque_len q = c.in-Some.ensures.variant.0 refl in
    let f = front_is q.items c.in-Some.datagram.now (omega (arith, q.ok.0)) c.in-Some.ensures.lookup in
    released_set c.args.self.now.first c.in-Some.datagram.now c.index_mut.result.now _ f.0 q.items s ss f.1
    c.index_mut.ensures.value refl refl c.if-spans-eq1.false h

pub returns-then-spans-eq1-clause-same_bytes : goal.returns-then-spans-eq1-clause-same_bytes
returns-then-spans-eq1-clause-same_bytes c = λ s t ss i h at.
    let q = c.args.self.now.list in
    let v : 0 < deque_len q = c.in-Some.ensures.variant.0 refl in
    let f = front_is q.items c.in-Some.datagram.now (omega (arith, q.ok.0)) c.in-Some.ensures.lookup in
    text_popped c.args.self.now.first c.in-Some.datagram.now f.0 q.items c.pop_front.new.self.items s ss i t f.1
    c.pop_front.ensures.rest c.if-spans-eq1.true h at

pub returns-else-spans-eq1-clause-same_bytes : goal.returns-else-spans-eq1-clause-same_bytes
returns-else-spans-eq1-clause-same_bytes c = λ s t ss i h at.
    let q = c.args.self.now.list in
    let v : 0 < deque_len q = c.in-Some.ensures.variant.0 refl in
    let f = front_is q.items c.in-Some.datagram.now (omega (arith, q.ok.0)) c.in-Some.ensures.lookup in
    text_set c.in-Some.datagram.now c.index_mut.result.now _ f.0 q.items t _ f.1 c.index_mut.ensures.value refl
