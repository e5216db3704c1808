pub mod Examples
pub mod Laws
pub mod Least
pub mod Module
pub mod Shipped
pub mod Tests
pub mod inner
