pub mod Conclude
pub mod Fits
pub mod Going
pub mod Indexes
pub mod Met
pub mod Storing
