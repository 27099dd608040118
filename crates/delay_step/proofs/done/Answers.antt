-- `delay_step::done` meets its contract.
use Rattle.delay_step.proofs.done.Goals as goal

pub returns : goal.returns
returns c =
    (rw c.one_more-lines.ensures, rw c.one_more-lines.ensures at c.report_row-written.ensures)
