use Rattle.std.proofs.Common.{rules, ◌≡◌, ◌<◌, ◌+◌, ◌-◌, suc, None, false, nat_eq, [], ◌∷◌, ◌++◌, drop, get_or, length}
use Rattle.std.proofs.Common.{take, refl, sym, ◌∙◌, arith}
use Rattle.std.proofs.lemmas.Bool.{eqb-true}
use Rattle.std.proofs.lemmas.Grind.{take-set_at}
use Rattle.std.proofs.lemmas.List.{length-drop, take_all}
use Rattle.std.specs.Prelude.{slice_set}
use Rattle.neli_payloads.specs.HardwareText.{byte_before, bytes_of_text}
use Rattle.neli_payloads.proofs.Texts.{after, nothing, text-end, text-full, text-more, text-none, text-other}
use Rattle.neli_payloads.proofs.hardware_text.hold_bytes.Goals as goal

pub returns-in_default-clause-value : goal.returns-in_default-clause-value
returns-in_default-clause-value c =
    let l = c.loop-count in
    let none : byte_before l.rest.now ≡ None = search rules in
    let room : 32 - l.count ≡ suc (31 - l.count) = omega (arith, c.loop-count-test.true) in
    sym (l.invariant.0 ∙ text-none (take l.count l.held) (32 - l.count) (31 - l.count) room l.rest.now none)

pub returns-then-is_empty-clause-value : goal.returns-then-is_empty-clause-value
returns-then-is_empty-clause-value c =
    let l = c.loop-count in
    let b = c.in-Some.byte in
    let room : 32 - l.count ≡ suc (31 - l.count) = omega (arith, c.loop-count-test.true) in
    let ends : c.in-Some.after.now ≡ [] = nothing c.in-Some.after.now
    (eqb-true _ _ (sym c.is_empty.ensures ∙ c.if-is_empty.true)) in
    let more : take (l.count + 1) (slice_set l.held l.count b) ≡ take l.count l.held ++ b ∷ [] =
    take-set_at l.held l.count (l.count + 1) b refl (omega (arith, c.loop-count-test.true, l.invariant.1)) in
    rw more (sym (l.invariant.0 ∙ text-end (take l.count l.held) (32 - l.count)
    (31 - l.count) room l.rest.now b c.in-Some.after.now c.in-Some.ensures.value c.in-Some.ensures.rest ends))

pub returns-then-after-ne58-clause-value : goal.returns-then-after-ne58-clause-value
returns-then-after-ne58-clause-value c =
    let l = c.loop-count in
    let room : 32 - l.count ≡ suc (31 - l.count) = omega (arith, c.loop-count-test.true) in
    let some : 0 < length c.in-Some.after.now = search (rules, arith) in
    let other : nat_eq (get_or c.in-Some.after.now 0 0) 58 ≡ false = search rules in
    sym (l.invariant.0 ∙ text-other (take l.count l.held) (32 - l.count)
    (31 - l.count) room l.rest.now c.in-Some.byte c.in-Some.after.now c.in-Some.ensures.value c.in-Some.ensures.rest
    some other)

pub loop-count-preserved : goal.loop-count-preserved
loop-count-preserved c =
    let l = c.loop-count in
    let b = c.in-Some.byte in
    let tail = c.in-Some.after.now in
    let room : 32 - l.count ≡ suc (31 - l.count) = omega (arith, c.loop-count-test.true) in
    let some : 0 < length tail = search (rules, arith) in
    let colon : get_or tail 0 0 ≡ 58 = search rules in
    let more : take (l.count + 1) (slice_set l.held l.count b) ≡ take l.count l.held ++ b ∷ [] =
    take-set_at l.held l.count (l.count + 1) b refl (omega (arith, c.loop-count-test.true, l.invariant.1)) in
    let less : 32 - (l.count + 1) ≡ 31 - l.count = omega arith in
    let whole : take (length tail - 1) (drop 1 tail) ≡ drop 1 tail =
    take_all (length tail - 1) (drop 1 tail) (omega (arith, length-drop 1 tail)) in
    let link : after (take l.count l.held ++ b ∷ []) (bytes_of_text (31 - l.count) (drop 1 tail))
    ≡ after (take (l.count + 1) (slice_set l.held l.count b))
    (bytes_of_text (32 - (l.count + 1)) (take (length tail - 1) (drop 1 tail))) = rw (more, less, whole) refl in (
      l.invariant.0
          ∙ text-more (take l.count l.held) (32 - l.count)
          (31 - l.count) room l.rest.now b tail c.in-Some.ensures.value c.in-Some.ensures.rest some colon
          ∙ link,
      search (rules, arith),
    )

pub returns-clause-value : goal.returns-clause-value
returns-clause-value c =
    let l = c.loop-count in
    sym (l.invariant.0 ∙ text-full (take l.count l.held) l.rest.now (32 - l.count)
    (omega (arith, c.loop-count-test.false)))
