-- `report::forms::class` meets its contract: a case for each answer.
use native.Mathlib.Omega.{arith}
use mir.Syntax.{w32}
use Rattle.laws.specs.Back.{via}
use Rattle.text.specs.Laws.{then}
use Rattle.report.specs.Forms.{class}
use Rattle.report.proofs.forms.class.Goals as goal

pub returns-in-Concealed : goal.returns-in-Concealed
unfolding class
returns-in-Concealed c = (omega (arith, c.put.ensures.place), rw c.in-Concealed.is c.put.ensures)

pub returns-in-Settling : goal.returns-in-Settling
unfolding class
returns-in-Settling c = (omega (arith, c.labelled.ensures.0), rw c.in-Settling.is c.labelled.ensures.1)

pub returns-in-NotClean : goal.returns-in-NotClean
unfolding class
returns-in-NotClean c = (omega (arith, c.labelled-in-NotClean.ensures.0), rw c.in-NotClean.is c.labelled-in-NotClean.ensures.1)

pub returns-in-Known : goal.returns-in-Known
unfolding class
returns-in-Known c = (omega (arith, c.put-in-Known.ensures.place), rw c.in-Known.is c.put-in-Known.ensures)

pub returns-in-Differs : goal.returns-in-Differs
unfolding class
returns-in-Differs c = (
  omega (arith, c.figure-a.ensures.0, c.signed-b.ensures.0, c.put-in-Differs.ensures.place),
  rw c.in-Differs.is (then (then c.figure-a.ensures.1 (rw (via w32 _ c.struct_told-1.given.1.0.1) at c.signed-b.ensures.1)) c.put-in-Differs.ensures),
)
