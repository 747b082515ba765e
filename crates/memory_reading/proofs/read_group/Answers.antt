-- Where `asked` gives the desk, the account is on its roster; a refusal leaves the report as it was.
use Rattle.integers.specs.Basics.{◌∙◌}
use Rattle.memory_reading.proofs.Reports.{of_group, group_allowed, refuses}
use Rattle.memory_reading.proofs.read_group.Goals as goal

pub group_report-requires : goal.group_report-requires
group_report-requires c = rw c.in_ok-desk.ensures.desk (group_allowed _ _ _ c.in_ok-desk.ensures.answer)

pub returns-in_err-desk-clause-report : goal.returns-in_err-desk-clause-report
returns-in_err-desk-clause-report c = refuses _ _ _ (c.in_err-desk.ensures.answer ∙ of_group _ _ _)
