-- `Tally::none` meets its contract.
use Rattle.report.specs.Report.{none}
use Rattle.report.proofs.Tally.none.Goals as goal

pub returns : goal.returns
unfolding none
returns c = rw c.none.ensures
