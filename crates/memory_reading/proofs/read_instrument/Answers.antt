-- Where `asked` gives the desk, the account and the instrument are on its roster; a refusal leaves the report as it was.
use Rattle.integers.specs.Basics.{◌∙◌}
use Rattle.memory_reading.proofs.Reports.{of_instrument, instrument_allowed, refuses}
use Rattle.memory_reading.proofs.read_instrument.Goals as goal

pub instrument_report-requires : goal.instrument_report-requires
instrument_report-requires c =
    rw c.in_ok-desk.ensures.desk (instrument_allowed _ _ _ c.in_ok-desk.ensures.answer)

pub returns-in_err-desk-clause-report : goal.returns-in_err-desk-clause-report
returns-in_err-desk-clause-report c = refuses _ _ _ (c.in_err-desk.ensures.answer ∙ of_instrument _ _ _)
