-- `report::forms::labelled` meets its contract.
use native.Mathlib.Omega.{arith}
use Rattle.text.specs.Laws.{then}
use Rattle.report.specs.Forms.{labelled}
use Rattle.report.proofs.forms.labelled.Goals as goal

pub returns : goal.returns
unfolding labelled
returns c =
    (omega (arith, c.figure-at.ensures.0, c.put.ensures.place), then c.figure-at.ensures.1 c.put.ensures)
