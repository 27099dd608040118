-- `delay_line::heading` meets its contract.
use native.Mathlib.Omega.{arith}
use Rattle.text.specs.Laws.{begun}
use Rattle.print.specs.Laws.{front}
use Rattle.delay_line.specs.DelayLine.{heading}
use Rattle.delay_line.proofs.heading.Goals as goal

pub returns : goal.returns
unfolding heading
returns c = (omega (arith, c.put.ensures.part.place), rw c.written.ensures (front (begun c.new-w.ensures.front c.put.ensures.part)))
