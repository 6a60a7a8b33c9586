pub mod judged
pub mod conditions
pub mod change
pub mod query
pub mod stored
pub mod examples
