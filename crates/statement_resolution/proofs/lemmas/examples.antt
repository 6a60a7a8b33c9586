pub mod InsertExamples
pub mod QueryExamples
pub mod UpdateExamples
pub mod StoredExamples
