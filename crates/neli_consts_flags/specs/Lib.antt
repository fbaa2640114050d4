pub mod Frf
pub mod IfaF
pub mod Iff
pub mod Ntf
pub mod Nud
pub mod RtmF
pub mod VlanFlags
