pub mod Closure
pub mod Imports
pub mod Laws
pub mod List
pub mod Loading
pub mod ReadFile
pub mod inner
