mod Entailed
pub mod Lists
pub mod Missing
mod Once
mod Views
pub mod Wanted
