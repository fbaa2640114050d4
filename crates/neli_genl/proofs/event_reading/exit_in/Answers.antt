use Rattle.std.proofs.Common.{length, refl}
use Rattle.std.specs.Int.{w32}
use Rattle.std.proofs.lemmas.Bool.{le-ltb}
use Rattle.std.proofs.lemmas.Int.{to_z-of_z}
use Rattle.neli_genl.proofs.event_reading.exit_in.Goals as goal

-- the numbers stand at their places, and each fits its type
pub returns-clause-value : goal.returns-clause-value
returns-clause-value c =
    rw (
      le-ltb (length c.args.bytes.now) 40 c.in_ok-has_event.ensures.enough,
      to_z-of_z w32 c.i32_in.result (record { sfits = c.i32_in.type_inv }),
      to_z-of_z w32 c.i32_in-2.result (record { sfits = c.i32_in-2.type_inv }),
      to_z-of_z w32 c.i32_in-3.result (record { sfits = c.i32_in-3.type_inv }),
      to_z-of_z w32 c.i32_in-4.result (record { sfits = c.i32_in-4.type_inv }),
      c.i32_in.ensures,
      c.i32_in-2.ensures,
      c.i32_in-3.ensures,
      c.i32_in-4.ensures,
      c.u32_in.ensures,
      c.u32_in-2.ensures,
    ) refl
