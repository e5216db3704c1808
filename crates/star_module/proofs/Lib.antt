pub mod EndTold
pub mod OneMore
pub mod Rounds
pub mod Ticks
