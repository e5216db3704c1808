pub mod Cause
pub mod EntryText
pub mod FaultText
pub mod Line
pub mod inner
