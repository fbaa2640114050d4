use Rattle.std.proofs.Common.{◌≡◌, ◌+◌, length, ap, ◌∙◌, arith}
use Rattle.byteorder.specs.Endian.{little_number}
use Rattle.neli_wire.specs.Sizes.{align}
use Rattle.neli_wire.proofs.Counted.{Counts, Counts-next, Counts-end, Counts-all, Counts-stuck, Counts-short}
use Rattle.neli_wire.proofs.frames.frames_in.Goals as goal

pub returns-then-len-lt-LEAST-clause-all : goal.returns-then-len-lt-LEAST-clause-all
returns-then-len-lt-LEAST-clause-all c =
    let rest = c.loop-cursor.cursor.rest in
    let len : c.read_u16-len.result ≡ little_number 2 rest = c.read_u16-len.ensures
    ∙ ap (little_number 2) c.rest-rest.ensures in
    Counts-stuck c.args.bytes.now rest c.loop-cursor.count c.loop-cursor.invariant
    (omega (arith, ap length c.rest.ensures)) (λ least. absurd (omega (arith, len, least)))

pub returns-then-rest-end-clause-all : goal.returns-then-rest-end-clause-all
returns-then-rest-end-clause-all c =
    let rest = c.loop-cursor.cursor.rest in
    let len : c.read_u16-len.result ≡ little_number 2 rest = c.read_u16-len.ensures
    ∙ ap (little_number 2) c.rest-rest.ensures in
    let end : c.alignto-end.result ≡ align (little_number 2 rest) = c.alignto-end.ensures ∙ ap align len in
    Counts-stuck c.args.bytes.now rest c.loop-cursor.count c.loop-cursor.invariant
    (omega (arith, ap length c.rest.ensures)) (λ least. omega (arith, end, ap length c.rest-rest.ensures))

pub loop-cursor-preserved : goal.loop-cursor-preserved
loop-cursor-preserved c =
    let rest = c.loop-cursor.cursor.rest in
    let len : c.read_u16-len.result ≡ little_number 2 rest = c.read_u16-len.ensures
    ∙ ap (little_number 2) c.rest-rest.ensures in
    let end : c.alignto-end.result ≡ align (little_number 2 rest) = c.alignto-end.ensures ∙ ap align len in
    let next : Counts c.args.bytes.now _ (c.loop-cursor.count + 1) =
    Counts-next c.args.bytes.now rest c.loop-cursor.count c.loop-cursor.invariant
    (omega (arith, len)) (omega (arith, end, ap length c.rest-rest.ensures)) in
    rw (c.advance.ensures, end) next

pub returns-then-rest-gt0-clause-all : goal.returns-then-rest-gt0-clause-all
returns-then-rest-gt0-clause-all c =
    Counts-short c.args.bytes.now c.loop-cursor.cursor.rest c.loop-cursor.count c.loop-cursor.invariant
    (omega (arith, ap length c.rest-2.ensures)) (omega (arith, ap length c.rest.ensures))

pub returns-clause-frames : goal.returns-clause-frames
returns-clause-frames c = λ some.
    Counts-end c.args.bytes.now c.loop-cursor.cursor.rest c.loop-cursor.count c.loop-cursor.invariant
    (omega (arith, ap length c.rest-2.ensures))

pub returns-clause-all : goal.returns-clause-all
returns-clause-all c =
    Counts-all c.args.bytes.now c.loop-cursor.cursor.rest c.loop-cursor.count c.loop-cursor.invariant
    (omega (arith, ap length c.rest-2.ensures))
