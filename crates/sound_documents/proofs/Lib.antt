pub mod FrameSound
pub mod NameLemmas
pub mod Operands
