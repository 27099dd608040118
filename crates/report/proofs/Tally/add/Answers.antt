-- `Tally::add` meets its contract: a case for each answer.
use Rattle.report.specs.Report.{add}
use Rattle.report.specs.Laws.{not_added}
use Rattle.report.proofs.Tally.add.Goals as goal

pub returns-in-Settling : goal.returns-in-Settling
unfolding add
returns-in-Settling c = rw (c.in-Settling.is, c.one_more.ensures)

pub returns-in-NotClean : goal.returns-in-NotClean
unfolding add
returns-in-NotClean c = rw (c.in-NotClean.is, c.one_more-in-NotClean.ensures)

pub returns-in-Known : goal.returns-in-Known
unfolding add
returns-in-Known c = rw (c.in-Known.is, c.one_more-in-Known.ensures)

pub returns-in-Differs : goal.returns-in-Differs
unfolding add
returns-in-Differs c = rw (c.in-Differs.is, c.one_more-in-Differs.ensures)

pub returns-in_default : goal.returns-in_default
returns-in_default c =
    let n = c.in_default in
    not_added c.args.c n.not-Known n.not-Differs n.not-Settling n.not-NotClean c.args.self c.args.counts
