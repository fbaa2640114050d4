use Rattle.neli_log.proofs.places.Places.next_of.Goals as goal

pub next_from-requires-clause-stands : goal.next_from-requires-clause-stands
next_from-requires-clause-stands g c =
    let h = c.requires.sound in
    record {
      is = h.places c.args.whose c.args.p.now c.requires.is;
      counted = λ q own. h.passed q c.args.p.now (rw own at c.requires.is);
    }
