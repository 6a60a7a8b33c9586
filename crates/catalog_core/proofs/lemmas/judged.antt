pub mod Least
pub mod Sound
