pub mod Feeding
pub mod Items
pub mod Laws
pub mod LineTexts
pub mod Lines
pub mod Tokens
pub mod inner
