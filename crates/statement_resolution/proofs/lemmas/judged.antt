pub mod FaultSums
pub mod Refused
