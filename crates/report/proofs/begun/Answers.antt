-- `report::begun` meets its contract.
use Rattle.report.specs.Report.{begun}
use Rattle.report.proofs.begun.Goals as goal

pub returns-in-Some : goal.returns-in-Some
unfolding begun
returns-in-Some c = rw c.in-Some.is

pub returns-in-None : goal.returns-in-None
unfolding begun
returns-in-None c = rw c.in-None.is
