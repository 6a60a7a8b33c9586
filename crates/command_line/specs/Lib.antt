pub mod CommandLine
pub mod Backup
pub mod FileCommand
pub mod Reading
pub mod Audits
pub mod Lines
pub mod CommandFaults
