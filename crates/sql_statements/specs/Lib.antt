pub mod Lexemes
pub mod Lexis
pub mod Words
pub mod Names
pub mod Trees
pub mod Elements
pub mod Plain
