pub mod Members
pub mod Rearranged
pub mod AnswerOrder
pub mod Snapshots
pub mod Days
pub mod Certificate
pub mod OneToOne
pub mod Witnesses
mod Examples
pub mod AnswerExamples
pub mod ListSteps
