-- `report::forms::frame` meets its contract.
use native.Mathlib.Omega.{arith}
use Rattle.text.specs.Laws.{then}
use Rattle.print.specs.Laws.{front}
use Rattle.report.specs.Forms.{frame}
use Rattle.report.proofs.forms.frame.Goals as goal

pub returns : goal.returns
unfolding frame
returns c =
    (omega (arith, c.figure-a.ensures.0, c.class.ensures.0), front (then c.figure-a.ensures.1 c.class.ensures.1))
