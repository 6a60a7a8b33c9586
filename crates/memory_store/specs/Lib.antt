pub mod Edit
pub mod Content
pub mod ContentStates
pub mod LoggedContents
pub mod Memory
pub mod Laws
pub mod Connected
