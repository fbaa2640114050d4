use Rattle.neli_tables.specs.Names.{word_text}
use Rattle.neli_tables.proofs.Places.{place_noted}
use Rattle.neli_tables.proofs.names.Names.add.Goals as goal

pub returns : goal.returns
returns c = λ w name.
    place_noted w name c.args.place _ c.in-Some.key _ _ c.in-Some.ensures
    (c.in_ok-insert.ensures.updates.0 (record { ref_ptr = (0, 0); now = word_text w }, record { ref_ptr = (0, 0); now = name }))
