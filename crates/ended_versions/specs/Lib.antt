pub mod Packed
pub mod Bounds
pub mod Entries
pub mod Hashes
pub mod Chains
pub mod Found
