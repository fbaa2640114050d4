use Rattle.neli_show.proofs.run.show_bytes.Goals as goal

pub returns-clause-shown : goal.returns-clause-shown
returns-clause-shown g c = λ output. (
  c.in_ok-input.input.bytes.items,
  c.in_ok-input.input.items.items,
  c.in_ok-tables.tables,
  c.in_ok-input.ensures,
  c.in_ok-tables.ensures,
  c.show_by.ensures.text output,
  c.show_by.ensures.ends output,
)
