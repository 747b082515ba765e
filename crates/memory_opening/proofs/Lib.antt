-- Questions 1 to 4, their tests number by number, and what an accepted opening leaves.
pub mod Tests
pub mod Answers
pub mod Opened
