pub mod Tables
pub mod CreateExamples
pub mod DefinitionExamples
pub mod TableExamples
pub mod LawfulExamples
pub mod FittingExamples
