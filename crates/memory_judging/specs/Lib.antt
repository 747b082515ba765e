pub mod OrderQuestions
pub mod OrderFields
pub mod QuestionsLeft
pub mod Entries
