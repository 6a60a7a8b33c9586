pub mod CommandLines
mod ClapClauses
mod ReadFacts
mod FileWords
mod LineFacts
mod LineExamples
