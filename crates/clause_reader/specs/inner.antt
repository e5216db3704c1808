pub mod Classes
pub mod Results
