use Rattle.std.proofs.Common.{◌≡◌, Ok, true, ◌++◌, ◌∷◌, [], ap, ◌∙◌}
use Rattle.std.proofs.lemmas.List.{append_assoc}
use Rattle.neli_router.specs.Verdicts.{heard_of}
use Rattle.neli_short_router.specs.Reads.{standing}
use Rattle.neli_short_router.proofs.Following.{reads_more}
use Rattle.neli_short_router.proofs.Steps.{rest_on}
use Rattle.neli_short_router.proofs.client.NlRouterClient.read_into.Goals as goal

pub items-preserved : goal.items-preserved
items-preserved g c =
    let inv = c.items.invariant in
    let yes : c.read_one.result ≡ Ok true = c.in_ok-read_one.was ∙ ap (λ b. Ok b) c.if-branch.true in
    let step = c.read_one.ensures.read yes in
    record {
      rest = rest_on g.D.Deliveries.port_of g.D.Deliveries.pending c.args.handle.now c.items.handle
          c.read_one.new.handle c.args.self.now c.items.self c.read_one.new.router inv.rest c.read_one.ensures.rest;
      reads = (
        inv.reads.0 ++ step.0 ∷ [],
        reads_more g.T.Constant.wire_value g.T.Constant.wire_number g.P.FromBytesWithInput.view g.P.Size.wire_length
            g.P.FromBytesWithInput.read
            (standing c.args.handle.now (g.D.Deliveries.pending c.args.self.now.deliveries)
            (heard_of c.args.self.now.heard))
            (standing c.items.handle (g.D.Deliveries.pending c.items.self.deliveries) (heard_of c.items.self.heard))
            (standing c.read_one.new.handle (g.D.Deliveries.pending c.read_one.new.router.deliveries)
            (heard_of c.read_one.new.router.heard))
            inv.reads.0 step.0 inv.reads.1 step.1,
        step.2
            ∙ (ap (λ ys. ys ++ step.0 ∷ []) inv.reads.2
            ∙ append_assoc c.args.items.now.items inv.reads.0 (step.0 ∷ [])),
      );
    }
