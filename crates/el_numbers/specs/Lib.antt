pub mod Laws
pub mod Proper
pub mod Rules
pub mod Saturated
pub mod Table
pub mod inner
