use Rattle.std.proofs.Common.{◌≡◌, ◌∙◌, ℕ, List, map, ap}
use Rattle.std.specs.Borrow.{Bor}
use Rattle.neli_inputs.specs.Lines.{is_addressed, line_of}
use Rattle.neli_inputs.specs.Text.{lines_in}
use Rattle.neli_inputs.proofs.Texts.{bare, said, spelled}
use Rattle.neli_inputs.proofs.text.read_text.Goals as goal

pub returns : goal.returns
returns c =
    let shown : map (λ (t : Bor (List ℕ)). t.now) c.deref.result.now ≡ lines_in c.args.text.now =
    ap (map (λ (t : Bor (List ℕ)). t.now)) c.deref.ensures.value ∙ c.in_ok-lines.ensures in
    let addressed : c.in_ok-addressed.addressed ≡ is_addressed (lines_in c.args.text.now) =
    c.in_ok-addressed.ensures ∙ ap is_addressed shown in
    let texts : map (λ (t : Bor (List ℕ)). t.now) c.deref-2.result.now ≡ lines_in c.args.text.now =
    ap (map (λ (t : Bor (List ℕ)). t.now)) c.deref-2.ensures.value ∙ c.in_ok-lines.ensures in
    let read = line_of (is_addressed (lines_in c.args.text.now)) in
    let lines = said read _ _ _ texts (rw addressed at c.in_ok-read.ensures.lines) in (
      spelled read _ _ _ texts (rw addressed at c.in_ok-read.ensures.bytes),
      bare _ _ _ _ _ _ _ _ c.in_ok-items.ensures c.deref-4.ensures.value
          c.deref-5.ensures.value c.in_ok-cooked.ensures c.deref-3.ensures.value lines,
    )
