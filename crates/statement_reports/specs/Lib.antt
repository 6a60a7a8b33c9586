pub mod Report
pub mod AuditedReport
pub mod CheckReport
