-- `print::figures` meets its contract: the figures, and the closing behind them.
use native.Mathlib.Omega.{arith}
use Rattle.text.specs.Laws.{then, begun}
use Rattle.print.specs.Print.{figures}
use Rattle.print.proofs.figures.Goals as goal

pub returns : goal.returns
unfolding figures
returns c =
    (omega arith, rw c.written.ensures (begun c.new-w.ensures.front (then (then c.figure.ensures.part c.figure-2.ensures.part) c.put.ensures.part)))
