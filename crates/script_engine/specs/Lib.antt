pub mod Headline
pub mod engine
pub mod Laws
pub mod script
