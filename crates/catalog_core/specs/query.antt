pub mod Selection
pub mod Queries
pub mod Fitting
