pub mod EmptyRows
