pub mod Definition
pub mod Places
pub mod Creation
pub mod PeriodCounts
pub mod PlacedTests
pub mod Lawful
