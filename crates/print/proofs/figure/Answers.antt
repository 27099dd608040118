-- `print::figure` meets its contract: the label, and the number behind it.
use native.Mathlib.Omega.{arith}
use Rattle.text.specs.Laws.{then}
use Rattle.print.specs.Print.{figure}
use Rattle.print.proofs.figure.Goals as goal

pub number-requires : goal.number-requires
number-requires c = omega (arith, c.put-at.ensures.place)

pub returns : goal.returns
unfolding figure
returns c =
    (omega (arith, c.put-at.ensures.place, c.number.ensures.0), then c.put-at.ensures c.number.ensures.1)
