pub mod Keeping
mod Knowing
