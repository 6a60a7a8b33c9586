pub mod lists
pub mod judged
pub mod conditions
pub mod table
pub mod create
pub mod query
pub mod bytes
pub mod examples
