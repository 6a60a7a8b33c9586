pub mod Counting
pub mod FrontEnds
pub mod NameFacts
pub mod QueryViews
pub mod WordsFacts
