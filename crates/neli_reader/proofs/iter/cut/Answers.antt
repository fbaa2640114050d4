use Rattle.std.proofs.Common.{◌≢◌, ℕ, List, Some, Result, Ok, Err, refl, arith, subst}
use Rattle.std.proofs.lemmas.Grind.{common_steps}
use Rattle.std.specs.Prelude.{OnErr}
use Rattle.neli_wire.specs.declared.errors.DeError.{DeError}
use Rattle.neli_wire.specs.Frames.{Layout, frame_takes_memory}
use Rattle.neli_msg.specs.declared.socket_error.SocketError.{SocketError}
use Rattle.neli_msg.specs.declared.socket_error.SocketError.TheVariants as socket
use Rattle.neli_msg.specs.Messages.{message_layout, message_takes_memory}
use Rattle.neli_reader.specs.Cuts.{IsNext}
use Rattle.neli_reader.proofs.iter.cut.Goals as goal

told : {A E P : Type 0} (r : Result A E) → P → OnErr r P
told (Ok x) p = tt
told (Err e) p = p

-- an error that is no fault is returned only where reading takes memory
told_by_memory : {H V : Type 0} (layout : Layout H V) (takes : Type 0) (old new : List ℕ) (e : SocketError)
    → ((fault : DeError) → e ≢ socket.De fault) → IsNext layout takes old new (Some (Err e)) → takes
told_by_memory layout takes old new (socket.De fault) other next = absurd (other fault refl)
told_by_memory layout takes old new socket.Memory other next = next.1
told_by_memory layout takes old new (socket.Msg m) other next = absurd next
told_by_memory layout takes old new (socket.Ser e) other next = absurd next
told_by_memory layout takes old new (socket.Io k) other next = absurd next

pub loop-item-preserved : goal.loop-item-preserved
loop-item-preserved g c =
    let read = rw c.in-Ok.is at c.in-Some.ensures.next in
    (grind (arith, common_steps), grind (arith, common_steps), λ e is. let same = c.loop-item.invariant.2 e is in absurd (let taken = read.1 in cc))

pub returns-in_err-push-in-Ok-clause-first : goal.returns-in_err-push-in-Ok-clause-first
returns-in_err-push-in-Ok-clause-first g c =
    let read = rw c.in-Ok.is at c.in-Some.ensures.next in
    told c.from_residual.result
    (λ e is. let same = c.loop-item.invariant.2 e is in absurd (let taken = read.1 in cc))

pub returns-in_err-fault_of-in-Err-clause-first : goal.returns-in_err-fault_of-in-Err-clause-first
returns-in_err-fault_of-in-Err-clause-first g c =
    let layout = message_layout g.T.Constant.wire_value g.T.Constant.wire_number g.P.FromBytesWithInput.read in
    let takes = message_takes_memory g.T.Constant.wire_number g.P.FromBytesWithInput.read
    g.P.FromBytesWithInput.takes_memory in
    let next = rw c.in-Err.is at c.in-Some.ensures.next in
    told c.from_residual-in_err-fault_of-in-Err.result
    (λ e is. subst (frame_takes_memory layout takes) (c.loop-item.invariant.2 e is)
    (told_by_memory layout _ c.loop-item.iter c.next.new.self c.in-Err.error
    c.in_err-fault_of-in-Err.ensures.memory next))
