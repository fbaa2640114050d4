-- Of readings, one after the other.
pub use Rattle.neli_wire.specs.laws.Reading.{refused_first}
