pub use Rattle.neli_msg.specs.laws.Headers
pub use Rattle.neli_msg.specs.laws.Messages
pub use Rattle.neli_msg.specs.laws.Plain
pub use Rattle.neli_msg.specs.laws.Retyping
pub use Rattle.neli_msg.specs.laws.Wires
pub use Rattle.neli_msg.specs.laws.Zeroed
pub use Rattle.neli_msg.specs.laws.ZeroedFrames
pub mod Cuts
