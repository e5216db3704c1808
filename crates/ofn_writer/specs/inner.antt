pub mod Declared
pub mod Pieces
