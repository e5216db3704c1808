pub mod ElPart
pub mod Laws
pub mod Numbering
pub mod Occurs
pub mod Rules
