-- `report::reached` meets its contract.
use Rattle.report.specs.Report.{reached}
use Rattle.report.specs.Laws.{not_reached}
use Rattle.report.proofs.reached.Goals as goal

pub returns-in-Known : goal.returns-in-Known
unfolding reached
returns-in-Known c = rw (c.in-Known.is, c.begun-so_far.ensures)

pub returns-in-Differs : goal.returns-in-Differs
unfolding reached
returns-in-Differs c = rw (c.in-Differs.is, c.one_more.ensures, c.begun-so_far.ensures)

pub returns-in_default : goal.returns-in_default
returns-in_default c = not_reached c.args.c c.in_default.not-Known c.in_default.not-Differs c.args.s c.args.n
