pub mod Scopes
pub mod QueryParts
pub mod Faults
pub mod Refusals
pub mod Matched
pub mod Resolving
pub mod Places
