-- `report::forms::stretch` meets its contract.
use native.Mathlib.Omega.{arith}
use Rattle.text.specs.Laws.{then}
use Rattle.print.specs.Laws.{front}
use Rattle.report.specs.Forms.{stretch}
use Rattle.report.proofs.forms.stretch.Goals as goal

pub returns : goal.returns
unfolding stretch
returns c =
    (omega (arith, c.figure-a.ensures.0, c.figure-b.ensures.0, c.labelled.ensures.0), front (then (then c.figure-a.ensures.1 c.figure-b.ensures.1) c.labelled.ensures.1))
