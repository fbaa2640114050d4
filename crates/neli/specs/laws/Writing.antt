-- Of bytes that are appended, one after the other.
pub use Rattle.neli_wire.specs.laws.Writing.{append_wire_both, append_wire_zeros}
