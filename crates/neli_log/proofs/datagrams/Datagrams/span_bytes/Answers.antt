use Rattle.std.proofs.Common.{arith, refl, ◌-◌, length}
use Rattle.std.proofs.lemmas.Option.{slice_get_read}
use Rattle.neli_log.proofs.Named.{span_in, same_read, text_read}
use Rattle.neli_log.proofs.datagrams.Datagrams.span_bytes.Goals as goal

pub overflow_sub-s : goal.overflow_sub-s
overflow_sub-s c = let r = c.requires in (span_in c.args.self.now.first c.args.self.now.list.items r.0 r.1 c.args.s r.2
    r.3).2

pub index-datagram-requires : goal.index-datagram-requires
index-datagram-requires c = let r = c.requires in let b =
    (span_in c.args.self.now.first c.args.self.now.list.items r.0 r.1 c.args.s r.2 r.3).3 in
    omega (arith, c.args.self.now.list.ok.0, b)

pub part-requires-clause-ordered : goal.part-requires-clause-ordered
part-requires-clause-ordered c = let r = c.requires in
    (span_in c.args.self.now.first c.args.self.now.list.items r.0 r.1 c.args.s r.2 r.3).4

pub part-requires-clause-within : goal.part-requires-clause-within
part-requires-clause-within c =
    let r = c.requires in let d = c.args.self.now in
    let w = span_in d.first d.list.items r.0 r.1 c.args.s r.2 r.3 in
    let here = slice_get_read d.list.items (length d.list.items)
    (c.args.s.datagram - d.first) c.index-datagram.result.now refl w.3 c.index-datagram.ensures in
    let same = same_read d.list.items (c.args.s.datagram - d.first) w.0 c.index-datagram.result.now w.1 here in
    rw (c.as_slice.ensures, ← same) w.5

pub returns : goal.returns
returns c =
    let r = c.requires in let d = c.args.self.now in
    let w = span_in d.first d.list.items r.0 r.1 c.args.s r.2 r.3 in
    let here = slice_get_read d.list.items (length d.list.items)
    (c.args.s.datagram - d.first) c.index-datagram.result.now refl w.3 c.index-datagram.ensures in
    text_read c.args.s d.list.items (c.args.s.datagram - d.first) c.index-datagram.result.now c.as_slice.result.now here
    c.as_slice.ensures c.part.ensures
