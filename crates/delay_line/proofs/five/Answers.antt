-- `delay_line::five` meets its contract.
use native.Mathlib.Omega.{arith}
use Rattle.text.specs.Laws.{then, begun}
use Rattle.print.specs.Laws.{front}
use Rattle.delay_line.specs.DelayLine.{five}
use Rattle.delay_line.proofs.five.Goals as goal

pub returns : goal.returns
unfolding five
returns c =
    (omega arith, rw c.written.ensures (front (begun c.new-w.ensures.front (then (then (then (then (then c.figure.ensures.part c.figure-2.ensures.part) c.figure-3.ensures.part) c.figure-4.ensures.part) c.figure-5.ensures.part) c.put.ensures.part))))
