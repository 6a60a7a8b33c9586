pub mod SortFacts
pub mod SumFacts
