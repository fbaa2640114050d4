use Rattle.std.proofs.Common.{rules, arith, ◌≡◌, ◌≢◌, [], ◌∙◌, sym, length, true, false, Err}
use Rattle.std.proofs.lemmas.Bool.{eqb-true}
use Rattle.neli_wire.specs.Frames.{frame_at}
use Rattle.neli_msg.specs.Messages.{message_layout}
use Rattle.neli_msg.specs.laws.Messages.{layout_with-placed}
use Rattle.neli_reader.specs.laws.Cuts.{cut_of-end, cut_of-message, cut_of-fault, refused_is}
use Rattle.neli_reader.specs.laws.Cuts.{drop_whole, empty_is, frame_at-longer}
use Rattle.neli_reader.proofs.iter.NlBufferIter.next_typed.Goals as goal

pub returns-then-is_empty : goal.returns-then-is_empty
returns-then-is_empty g c =
    let none : length c.rest.result.now ≡ 0 = eqb-true _ _ (sym c.is_empty.ensures ∙ c.if-is_empty.true) in
    let nothing : c.args.self.now ≡ [] = sym c.self.view_is ∙ sym c.rest.ensures ∙ empty_is c.rest.result.now none in
    record {
      next = (nothing, nothing);
      shorter = tt;
      cut = rw nothing (cut_of-end (message_layout g.T2.Constant.wire_value g.T2.Constant.wire_number
          g.P2.FromBytesWithInput.read) (layout_with-placed g.T2.Constant.wire_value _) (omega arith));
    }

pub returns-in-Ok : goal.returns-in-Ok
returns-in-Ok g c =
    let layout = message_layout g.T2.Constant.wire_value g.T2.Constant.wire_number g.P2.FromBytesWithInput.read in
    let none : (true ≡ false → c.args.self.now ≡ []) × (c.args.self.now ≡ [] → true ≡ false) = search rules in
    let any : c.args.self.now ≢ [] = λ e. let f = none.1 e in cc in
    let value = rw c.self.view_is at c.in-Ok.ensures.value in
    record {
      next = (any, value);
      shorter = frame_at-longer layout (layout_with-placed g.T2.Constant.wire_value _) (omega arith) _ _ _ value;
      cut = cut_of-message layout (layout_with-placed g.T2.Constant.wire_value _) (omega arith) _ _ _ value;
    }

-- the fault is that of the rest, and the cursor stands after the last byte
pub returns-in_default : goal.returns-in_default
returns-in_default g c =
    let layout = message_layout g.T2.Constant.wire_value g.T2.Constant.wire_number g.P2.FromBytesWithInput.read in
    let none : (true ≡ false → c.args.self.now ≡ []) × (c.args.self.now ≡ [] → true ≡ false) = search rules in
    let any : c.args.self.now ≢ [] = λ e. let f = none.1 e in cc in
    let nothing : c.set_position.new.self.rest ≡ [] = c.set_position.ensures.rest
    ∙ (rw (← c.get_ref-end.ensures) (drop_whole c.get_ref-end.result.now)) in
    let faulty : frame_at layout c.args.self.now ≡ Err c.in-Err.error =
    rw (← c.self.view_is) (refused_is _ _ c.in-Err.error c.in_default.not-Memory c.in-Err.ensures.refused) in
    record {
      next = (any, faulty, nothing);
      shorter = tt;
      cut = cut_of-fault layout (layout_with-placed g.T2.Constant.wire_value _)
          (omega arith) c.args.self.now c.in-Err.error any faulty;
    }
