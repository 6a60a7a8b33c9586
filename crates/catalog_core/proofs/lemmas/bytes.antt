pub mod DefinitionParts
pub mod Fronts
pub mod DefinitionFronts
pub mod DefinitionSpelling
pub mod DefinitionSame
