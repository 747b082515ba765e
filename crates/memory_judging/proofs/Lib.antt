-- What the proofs of the judge's functions use: what 14 to 24 read, the table kind by kind, two lists of questions in turn, orders by id;
-- and laws of figures and of what the judge says.
mod OrderAnswers
mod Cells
mod HandedOn
mod Figures
mod ByKind
mod Places
mod Verdicts
mod QuestionsInOrder
mod Rises
