-- `report::computed` meets its contract.
use Rattle.report.specs.Report.{computed}
use Rattle.report.specs.Laws.{not_computed}
use Rattle.report.proofs.computed.Goals as goal

pub returns-in-Known : goal.returns-in-Known
unfolding computed
returns-in-Known c = rw c.in-Known.is

pub returns-in-Differs : goal.returns-in-Differs
unfolding computed
returns-in-Differs c = rw c.in-Differs.is

pub returns-in_default : goal.returns-in_default
returns-in_default c = not_computed c.args.c c.in_default.not-Known c.in_default.not-Differs
