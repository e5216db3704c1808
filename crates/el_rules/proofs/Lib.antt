pub mod Sound
pub mod Transport
