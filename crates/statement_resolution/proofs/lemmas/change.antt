pub mod GivenValues
pub mod GivenPlaces
pub mod GivenPositions
pub mod InsertFaults
pub mod RowFacts
pub mod PortionFaults
