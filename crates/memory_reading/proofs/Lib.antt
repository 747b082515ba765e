-- Laws of the readers: the questions that both ask, and what each reports.
pub mod Reports
