pub mod Insertion
pub mod PortionChanges
pub mod Resolution
pub mod InsertPlaces
