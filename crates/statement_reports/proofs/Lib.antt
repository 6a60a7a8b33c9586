mod AuditedSteps
mod CheckSteps
pub mod AppendFacts
pub mod AuditedExamples
pub mod BufferFacts
pub mod CheckExamples
pub mod CsvFacts
pub mod ReportExamples
