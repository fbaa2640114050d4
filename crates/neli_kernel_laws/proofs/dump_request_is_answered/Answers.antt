use Rattle.std.proofs.Common.{◌++◌, ◌∷◌, [], refl, subst, sym}
use Rattle.std.proofs.lemmas.List.Elements.{All-push}
use Rattle.neli_kernel.specs.Delivered.{IsFor, answer_kept, end_said}
use Rattle.neli_kernel.specs.Dumps.{dump_end}
use Rattle.neli_kernel_laws.specs.Complete.{IsComplete}
use Rattle.neli_kernel_laws.proofs.Complete.{dump_complete}
use Rattle.neli_kernel_laws.proofs.Exchanges.{served-in-turn}
use Rattle.neli_kernel_laws.proofs.dump_request_is_answered.Goals as goal

pub returns : goal.returns
returns g c = λ x limit asked flags code attrs text p said ms datagrams needs fits back read are all parts is.
    let own = answer_kept (dump_end asked flags code attrs) in
    let whole = c.finished_dump_is_delivered.ensures.read limit asked flags code attrs text p said datagrams fits back
    read is in
    let known = c.finished_dump_is_delivered.ensures.kept asked flags code attrs text said ms fits.code_fits back are in
    let cut = c.dump_is_delivered.ensures.cut datagrams (said ++ end_said asked flags code attrs text ∷ [])
    (ms ++ own ∷ []) whole known in
    served-in-turn g.RT.Constant.wire_value g.RT.Constant.wire_number g.RP.FromBytesWithInput.view g.RP.Size.wire_length
    g.RP.FromBytesWithInput.read g.met.RT.Constant.back_to_number
    x asked datagrams (ms ++ own ∷ []) cut.0 cut.1 (All-push (IsFor asked.header.sequence_number asked.port) ms own all
    (refl, refl))
    (subst (λ b. IsComplete b (ms ++ own ∷ [])) (sym needs)
    (dump_complete ms (dump_end asked flags code attrs).header code attrs parts refl))
