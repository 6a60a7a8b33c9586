mod BoundFacts
mod ChainFacts
mod EntryFacts
pub mod FoundFacts
mod WalkFacts
pub mod PackedFacts
