pub mod StoredAnswers
