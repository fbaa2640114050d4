use Rattle.std.proofs.Common.{◌≡◌, ◌∙◌, ap, sym, refl, length}
use Rattle.neli_attr_parts.proofs.buffer.Buffer.as_mut.Goals as goal

pub returns : goal.returns
returns c =
    let bytes : c.self.inside.bytes.items ≡ c.args.self.now = c.self.view_is in
    let whole : c.self.inside.bytes.len ≡ length c.args.self.now = sym c.as_mut_slice.ensures.len
    ∙ ap length (c.as_mut_slice.ensures.value ∙ bytes) in
    ((refl, λ w. rw (whole, bytes) refl), record { writes_back = tt; value = c.as_mut_slice.ensures.value ∙ bytes })
