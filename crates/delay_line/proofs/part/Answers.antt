-- `delay_line::part` meets its contract.
use native.Mathlib.Omega.{arith}
use Rattle.text.specs.Laws.{then}
use Rattle.print.specs.Laws.{front}
use Rattle.depth_table.specs.Laws.{length_two}
use Rattle.delay_line.specs.DelayLine.{part}
use Rattle.delay_line.proofs.part.Goals as goal

pub put-requires : goal.put-requires
put-requires c =
    omega (arith, c.figure-a.ensures.0, c.figure-b.ensures.0, c.figure-c.ensures.0, c.put-d.ensures.place, c.two-e.ensures.place, length_two c.hundredths-h.result)

pub returns : goal.returns
unfolding part
returns c = (
  omega (arith, c.figure-a.ensures.0, c.figure-b.ensures.0, c.figure-c.ensures.0, c.put-d.ensures.place, c.two-e.ensures.place, length_two c.hundredths-h.result, c.put.ensures.place),
  front
      (rw c.hundredths-h.ensures at
      (then (then (then (then (then c.figure-a.ensures.1 c.figure-b.ensures.1) c.figure-c.ensures.1) c.put-d.ensures) c.two-e.ensures) c.put.ensures)),
)
