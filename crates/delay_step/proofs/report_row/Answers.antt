-- `delay_step::report_row` meets its contract.
use Rattle.delay_step.specs.Step.{report_row}
use Rattle.delay_step.proofs.report_row.Goals as goal

pub returns : goal.returns
unfolding report_row
returns c =
    rw (c.number-2.ensures, c.thirds-2.ensures, c.number.ensures, c.thirds.ensures) at c.row.ensures
