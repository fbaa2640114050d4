use Rattle.std.proofs.Common.{◌≡◌, ℕ, drop}
use Rattle.neli_show.specs.Learnt.{input_learnt}
use Rattle.neli_tables.specs.Families.{learnt, tables_in}
use Rattle.neli_show.proofs.learn.learn_input.Given as goal

-- what is learnt so far, and then from the parts that are left, is what is learnt from all
abbrev pub invariant-loop-part : goal.invariant-loop-part
invariant-loop-part l =
    (tables_in l.tables ≡ tables_in l.fn.tables)
    × ((n : ℕ) → input_learnt l.fn.protocol (tables_in l.fn.tables) l.input.bytes.items n
    (learnt l.tables n)
    (drop l.part-index l.part-items)
    ≡ input_learnt l.fn.protocol (tables_in l.fn.tables) l.input.bytes.items n
    (learnt l.fn.tables n) l.part-items)
