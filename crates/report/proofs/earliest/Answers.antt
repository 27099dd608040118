-- `report::earliest` meets its contract.
use mir.Syntax.{w32}
use Rattle.laws.specs.Back.{via}
use Rattle.report.specs.Report.{earliest}
use Rattle.report.specs.Laws.{not_earlier}
use Rattle.report.proofs.earliest.Goals as goal

pub returns-in-None-Differs : goal.returns-in-None-Differs
unfolding earliest
returns-in-None-Differs c = rw (c.in-None-Differs.is-0, c.in-None-Differs.is-1, via w32 _ c.struct_told-1.given.1.0.1)

pub returns-in_default : goal.returns-in_default
returns-in_default c = rw c.in_default.is-0 (not_earlier c.args.c c.in_default.not-Differs-1 c.args.n)

pub returns-in_default-2 : goal.returns-in_default-2
unfolding earliest
returns-in_default-2 c = rw c.in_default.is-0
