pub mod FillLaws
pub mod Findings
pub mod InFills
pub mod LocalDepends
pub mod LocalSound
pub mod Monotone
pub mod Rows
pub mod Sound
