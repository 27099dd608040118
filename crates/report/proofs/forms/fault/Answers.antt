-- `report::forms::fault` meets its contract.
use native.Mathlib.Omega.{arith}
use mir.Syntax.{w32}
use Rattle.laws.specs.Back.{via}
use Rattle.text.specs.Laws.{then}
use Rattle.print.specs.Laws.{front}
use Rattle.report.specs.Forms.{fault}
use Rattle.report.proofs.forms.fault.Goals as goal

pub returns : goal.returns
unfolding fault
returns c = (
  omega (arith, c.figure-a.ensures.0, c.figure-b.ensures.0, c.signed-c.ensures.0, c.put.ensures.place),
  front (then (then (then c.figure-a.ensures.1 c.figure-b.ensures.1) (rw (via w32 _ c.struct_told-1.given.1.1.0.1) at c.signed-c.ensures.1)) c.put.ensures),
)
