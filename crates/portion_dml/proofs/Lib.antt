pub mod PeriodParts
pub mod Daily
pub mod Planned
pub mod Ending
pub mod Applied
pub mod PlainCases
