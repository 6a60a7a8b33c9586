pub mod DefinitionValues
pub mod DefinitionEncoding
pub mod DefinitionLaws
pub mod DefinitionReading
