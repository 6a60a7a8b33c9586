mod NewStore
mod ProgramExamples
mod ProgramFacts
