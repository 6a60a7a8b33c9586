pub mod Matches
pub mod Naming
pub mod Kinds
pub mod IsDefinition
pub mod TableWords
