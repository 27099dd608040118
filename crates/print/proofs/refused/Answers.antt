-- `print::refused` meets its contract: two figures, and the closing behind them.
use native.Mathlib.Omega.{arith}
use Rattle.text.specs.Laws.{then, begun}
use Rattle.print.specs.Print.{refused}
use Rattle.print.specs.Laws.{front}
use Rattle.print.proofs.refused.Goals as goal

pub returns : goal.returns
unfolding refused
returns c =
    (omega arith, rw c.written.ensures (front (begun c.new-w.ensures.front (then (then c.figure.ensures.part c.figure-2.ensures.part) c.put.ensures.part))))
