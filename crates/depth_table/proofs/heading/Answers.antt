-- `depth_table::heading` meets its contract.
use native.Mathlib.Omega.{arith}
use Rattle.text.specs.Laws.{then}
use Rattle.print.specs.Laws.{front}
use Rattle.depth_table.specs.Table.{heading}
use Rattle.depth_table.proofs.heading.Goals as goal

pub returns : goal.returns
unfolding heading
returns c = (
  omega (arith, c.figure-a.ensures.0, c.figure-b.ensures.0, c.figure-c.ensures.0, c.put.ensures.place),
  front (then (then (then c.figure-a.ensures.1 c.figure-b.ensures.1) c.figure-c.ensures.1) c.put.ensures),
)
