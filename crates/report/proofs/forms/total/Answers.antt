-- `report::forms::total` meets its contract.
use native.Mathlib.Omega.{arith}
use Rattle.text.specs.Laws.{then}
use Rattle.print.specs.Laws.{front}
use Rattle.report.specs.Forms.{total}
use Rattle.report.proofs.forms.total.Goals as goal

pub returns : goal.returns
unfolding total
returns c = (
  omega (arith, c.figure-a.ensures.0, c.figure-b.ensures.0, c.figure-c.ensures.0, c.figure-d.ensures.0, c.figure-e.ensures.0, c.labelled.ensures.0),
  front (then (then (then (then (then c.figure-a.ensures.1 c.figure-b.ensures.1) c.figure-c.ensures.1) c.figure-d.ensures.1) c.figure-e.ensures.1) c.labelled.ensures.1),
)
