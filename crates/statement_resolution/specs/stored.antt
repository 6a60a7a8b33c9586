pub mod StoredQueries
pub mod StoredPlacing
