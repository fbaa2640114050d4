use Rattle.std.proofs.Common.{◌≡◌, ◌⊎◌, ℤ, true, arith, refl, ap, sym, subst, ◌∙◌, List, Some, length}
use Rattle.std.proofs.Common.{of_z, to_z, w32}
use Rattle.std.proofs.lemmas.Int.{to_z-of_z}
use Rattle.neli_c_parts.specs.Codes.{in_use, memory, ok}
use Rattle.neli_c_parts.specs.Sessions.{is_open}
use Rattle.neli_c_parts.specs.Writes.{put_first}
use Rattle.neli_router.specs.declared.handle.HandleState.{HandleState}
use Rattle.neli_c_parts.specs.declared.session.Slot.{Slot}
use Rattle.neli_c_parts.specs.Slots.{handle_at, put_at}
use Rattle.neli_c_parts.proofs.FreePlaces.{again}
use Rattle.neli_c_parts.proofs.Requests.{copied-code, fitting-code, frame-converted, no-matter-of-room}
use Rattle.neli_c_parts.proofs.Requests.{refusal-code}
use Rattle.neli_c_parts.proofs.Requests.{refused-else}
use Rattle.neli_c_parts.proofs.session.Session.send_expecting.Goals as goal

pub returns-in-Ok-send_expecting-clause-sent : goal.returns-in-Ok-send_expecting-clause-sent
returns-in-Ok-send_expecting-clause-sent c = λ e.
    let good : c.copy.result ≡ ok = sym (to_z-of_z w32 c.copy.result (record { sfits = c.copy.type_inv })) ∙ e in
    let r = c.in-Ok-send_expecting.ensures in
    let bytes = c.in-Ok-send_expecting.bytes.items in
    let same : c.deref.result.now ≡ bytes = c.deref.ensures.value in
    let s = c.args.self.now in
    let h : HandleState = c.in-Ok-send_expecting.handle in
    let is = r.handle in
    let there : c.reserve.new.self.items ≡ s.handles.items = c.reserve.ensures.items in
    let p = c.put-sent.ensures in (
      bytes,
      frame-converted _ _ _ _ _ _ _ _ bytes c.from_wire-flags.ensures c.in-Ok.ensures.value r.bytes,
      c.copy.ensures.copied good ∙ ap (λ b. put_first b c.args.out.now) same,
      c.copy.ensures.size ∙ ap (λ b. length b) same,
      ap (λ (hs : List Slot). handle_at c.put-sent.result hs) (sym there) ∙ p.free,
      p.put ∙ ap (λ (hs : List Slot). put_at c.put-sent.result h hs) there
          ∙ ap (λ (x : HandleState). put_at c.put-sent.result x s.handles.items) is,
      p.handle ∙ ap (λ (x : HandleState). Some x) is,
      λ ks free. again c.reserve.new.self.items s.handles.items s.freed c.put-sent.result ks
          c.put-sent.new.handles.items c.put-sent.new.freed there (p.again ks) free,
      r.next_seq,
      r.opened.0,
      r.opened.1,
      r.same.port,
      refl,
      r.heard.0,
      r.heard.1,
    )

pub returns-in-Err-clause-sent : goal.returns-in-Err-clause-sent
returns-in-Err-clause-sent c = λ e. absurd (c.of_error.ensures.refused
    (sym (to_z-of_z w32 c.of_error.result (record { sfits = c.of_error.type_inv })) ∙ e))

-- the frame has the bytes for which the room was found
pub returns-in-Ok-send_expecting-clause-refused : goal.returns-in-Ok-send_expecting-clause-refused
returns-in-Ok-send_expecting-clause-refused c = λ ne.
    let code = to_z-of_z w32 c.copy.result (record { sfits = c.copy.type_inv }) in
    absurd (ne (code ∙ copied-code _ _ _ _ _ _ _ _ _ _ _ c.in-Ok-send_expecting.ensures.bytes c.in-Ok.ensures.value
    c.deref.ensures.value (omega (arith, c.if-out-wanted.false)) c.copy.ensures.code))

pub returns-in-Ok-send_expecting-clause-why : goal.returns-in-Ok-send_expecting-clause-why
returns-in-Ok-send_expecting-clause-why c = λ ne.
    let code = to_z-of_z w32 c.copy.result (record { sfits = c.copy.type_inv }) in
    absurd (ne (code ∙ copied-code _ _ _ _ _ _ _ _ _ _ _ c.in-Ok-send_expecting.ensures.bytes c.in-Ok.ensures.value
    c.deref.ensures.value (omega (arith, c.if-out-wanted.false)) c.copy.ensures.code))

pub returns-in-Ok-send_expecting-clause-needed : goal.returns-in-Ok-send_expecting-clause-needed
returns-in-Ok-send_expecting-clause-needed c = λ ne.
    let code = to_z-of_z w32 c.copy.result (record { sfits = c.copy.type_inv }) in
    absurd (ne (code ∙ copied-code _ _ _ _ _ _ _ _ _ _ _ c.in-Ok-send_expecting.ensures.bytes c.in-Ok.ensures.value
    c.deref.ensures.value (omega (arith, c.if-out-wanted.false)) c.copy.ensures.code))

pub returns-in-Err-clause-why : goal.returns-in-Err-clause-why
returns-in-Err-clause-why c = λ ne.
    let s = c.args.self.now in
    let code = to_z-of_z w32 c.of_error.result (record { sfits = c.of_error.type_inv }) ∙ c.of_error.ensures.code in
    let size : length c.in-Ok.buffer ≡ length c.args.body.now = ap (λ b. length b) c.in-Ok.ensures.value in
    let cause = refusal-code _ _ _ _ _ c.in-Ok.buffer _ c.in-Err.error (omega (arith, size, c.if-body.false))
    c.in-Err.ensures.refused in
    refused-else c.args.body.now s c.args.out.now (to_z w32 (of_z w32 c.of_error.result))
    (fitting-code (length c.args.body.now) (length c.args.out.now) (omega (arith, c.if-body.false))
    (omega (arith, c.if-out-wanted.false)))
    (subst (λ (z : ℤ). ((z ≡ in_use) × (is_open s s.router.next_seq ≡ true)) ⊎ (z ≡ memory)) (sym code) cause)

pub returns-in-Err-clause-needed : goal.returns-in-Err-clause-needed
returns-in-Err-clause-needed c = λ ne.
    let code = to_z-of_z w32 c.of_error.result (record { sfits = c.of_error.type_inv }) ∙ c.of_error.ensures.code in
    let size : length c.in-Ok.buffer ≡ length c.args.body.now = ap (λ b. length b) c.in-Ok.ensures.value in
    let cause = refusal-code _ _ _ _ _ c.in-Ok.buffer _ c.in-Err.error (omega (arith, size, c.if-body.false))
    c.in-Err.ensures.refused in (λ is. absurd (no-matter-of-room _ _ cause (sym code ∙ is)), λ _. refl)

pub returns-in-Err-clause-refused : goal.returns-in-Err-clause-refused
returns-in-Err-clause-refused c = λ ne. (
  c.in-Err.ensures.same.port,
  c.in-Err.ensures.unchanged.0,
  c.in-Err.ensures.unchanged.1,
  refl,
  c.reserve.ensures.items,
  refl,
)
