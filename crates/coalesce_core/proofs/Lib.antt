pub mod Lists
pub mod Order
pub mod Steps
pub mod Streams
