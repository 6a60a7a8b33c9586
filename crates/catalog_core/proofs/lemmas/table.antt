pub mod Numbered
pub mod Positions
pub mod Distinct
pub mod Named
