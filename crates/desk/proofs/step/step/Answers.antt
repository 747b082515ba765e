-- An acceptance works the event; a refusal changes nothing.
use Rattle.integers.specs.Basics.{◌∙◌}
use Rattle.desk.proofs.Stepped.{stepped_worked, stepped_same}
use Rattle.desk.proofs.step.step.Goals as goal

pub returns-in_err-named-clause-memory : goal.returns-in_err-named-clause-memory
returns-in_err-named-clause-memory c = stepped_same _ _ _ c.in_err-named.ensures.answer

pub returns-clause-memory : goal.returns-clause-memory
returns-clause-memory c = c.work.ensures.memory ∙ stepped_worked _ _ c.in_ok-named.ensures.answer
