use Rattle.std.proofs.Common.{◌≡◌, ◌+◌, ◌++◌, List, ℕ, length, take, drop, ap, ◌∙◌, arith}
use Rattle.neli_program.proofs.Rewritings.{rest_is, zeroed_all, zeroed_error, zeroed_more, zeroed_none, zeroed_tail}
use Rattle.neli_program.proofs.rewriting.rewriting_of.Goals as goal

pub loop-at-init : goal.loop-at-init
loop-at-init c = record {
  zeroed = zeroed_none c.args.bytes.items;
  small = rw c.deref.ensures.value at c.are_bytes.ensures;
}

pub loop-at-preserved : goal.loop-at-preserved
loop-at-preserved c =
    let text = c.loop-at.text.items in
    let at = c.loop-at.at in
    let written = c.in-Ok-Some.written.items in
    let again = rw (c.deref-in-loop-at.ensures.value, rest_is c.loop-at.text.items c.loop-at.at, c.in-Ok-Some.field-0-is) at c.in-Ok-Some.ensures.value in
    let more = zeroed_more c.args.bytes.items text at written c.loop-at.invariant.zeroed again in
    let put : c.put.new.bytes.items ≡ take at text ++ (written ++ drop (at + length written) text) =
    c.put.ensures ∙ ap (λ (w : List ℕ). take at text ++ (w ++ drop (at + length w) text))
    c.deref-in-Ok-Some.ensures.value in
    let next : at + c.len-at.result ≡ at + length written =
    ap (λ (n : ℕ). at + n) (c.len-at.ensures ∙ c.in-Ok-Some.written.ok.0) in
    record {
      zeroed = rw (put, next) more;
      small = c.loop-at.invariant.small;
    }

pub returns-in-Ok-None : goal.returns-in-Ok-None
returns-in-Ok-None c =
    let again = rw (c.deref-in-loop-at.ensures.value, rest_is c.loop-at.text.items c.loop-at.at, c.in-Ok-None.field-0-is) at c.in-Ok-None.ensures.value in
    zeroed_tail c.args.bytes.items c.loop-at.text.items c.loop-at.at c.after_tail.result.bytes.items
    c.after_tail.result.ending c.loop-at.invariant.zeroed again
    (rw (c.deref-in-Ok-None.ensures.value, rest_is c.loop-at.text.items c.loop-at.at) at c.after_tail.ensures)

pub returns-in-Err : goal.returns-in-Err
returns-in-Err c =
    rw (c.nothing.ensures.0, c.nothing.ensures.1, c.ending_at.ensures) (zeroed_error c.args.bytes.items
    c.loop-at.text.items c.loop-at.at c.in-Err.error c.loop-at.invariant.zeroed
    (omega (arith, c.loop-at-test.true, c.len.ensures, c.loop-at.text.ok.0))
    (rw (c.deref-in-loop-at.ensures.value, rest_is c.loop-at.text.items c.loop-at.at) at c.in-Err.ensures.refused))

pub returns : goal.returns
returns c =
    zeroed_all c.args.bytes.items c.loop-at.text.items c.loop-at.at c.loop-at.invariant.small
    c.loop-at.invariant.zeroed (omega (arith, c.loop-at-test.false, c.len.ensures, c.loop-at.text.ok.0))
