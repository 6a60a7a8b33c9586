pub mod Cuts
pub mod Ends
mod Examples
pub mod Forked
pub mod Given
pub mod AbbreviatedKeys
pub mod Heights
pub mod Numbers
pub mod Orders
pub mod Placed
pub mod Undone
pub mod Walks
