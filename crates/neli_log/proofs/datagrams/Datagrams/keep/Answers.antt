use Rattle.std.proofs.Common.{◌≡◌, ◌++◌, ◌∷◌, []}
use Rattle.neli_log.specs.declared.span.Datagram.{Datagram}
use Rattle.neli_log.proofs.Named.{kept, text_new, text_pushed}
use Rattle.neli_log.proofs.datagrams.Datagrams.keep.Goals as goal

pub returns-clause-names : goal.returns-clause-names
returns-clause-names c = λ old new h of long.
    let s = c.args.self.now in
    let x : Datagram = record { bytes = c.args.bytes; spans = c.args.spans } in
    let pushed : c.push_back_reserved.new.self.items ≡ s.list.items ++ x ∷ [] =
    c.push_back_reserved.ensures.items in
    kept s.first s.list.items c.push_back_reserved.new.self.items x old new pushed c.requires.room.serial
    c.requires.some long of h

pub returns-clause-same_bytes : goal.returns-clause-same_bytes
returns-clause-same_bytes c = λ old i s h at.
    let d = c.args.self.now in
    let x : Datagram = record { bytes = c.args.bytes; spans = c.args.spans } in
    let pushed : c.push_back_reserved.new.self.items ≡ d.list.items ++ x ∷ [] =
    c.push_back_reserved.ensures.items in
    text_pushed d.first d.list.items c.push_back_reserved.new.self.items x old i s pushed h at

pub returns-clause-new_span : goal.returns-clause-new_span
returns-clause-new_span c = λ s at.
    let d = c.args.self.now in
    let x : Datagram = record { bytes = c.args.bytes; spans = c.args.spans } in
    let pushed : c.push_back_reserved.new.self.items ≡ d.list.items ++ x ∷ [] =
    c.push_back_reserved.ensures.items in
    text_new d.first d.list.items c.push_back_reserved.new.self.items x s pushed at
