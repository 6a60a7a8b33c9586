pub mod AnyTests
pub mod Finds
pub mod Kept
pub mod Places
pub mod Counted
