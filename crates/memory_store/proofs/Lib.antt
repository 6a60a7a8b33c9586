mod Examples
pub mod Logs
pub mod Opened
pub mod Snapshots
pub mod Shaped
pub mod ContentStates
pub mod Views
