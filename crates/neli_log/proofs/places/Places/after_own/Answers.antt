use Rattle.neli_log.proofs.places.Places.after_own.Goals as goal

pub past_own-requires-clause-stands : goal.past_own-requires-clause-stands
past_own-requires-clause-stands g c =
    let h = c.requires.sound in
    record {
      is = h.places c.args.whose c.args.p c.requires.is;
      counted = λ q own. h.passed q c.args.p (rw own at c.requires.is);
    }

pub returns-clause-place : goal.returns-clause-place
returns-clause-place g c = c.past_own.ensures.stands.is

pub returns-clause-counted : goal.returns-clause-counted
returns-clause-counted g c = λ q is. c.past_own.ensures.stands.counted q is
