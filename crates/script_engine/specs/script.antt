pub mod Script
pub mod AuditedRuns
pub mod Check
pub mod Listening
pub mod Keeping
pub mod Timed
pub mod ReadOnly
pub mod Noted
