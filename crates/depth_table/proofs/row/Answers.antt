-- `depth_table::row` meets its contract.
use native.Mathlib.Omega.{arith}
use Rattle.text.specs.Laws.{then}
use Rattle.print.specs.Laws.{front}
use Rattle.depth_table.specs.Table.{row}
use Rattle.depth_table.proofs.row.Goals as goal

pub returns : goal.returns
unfolding row
returns c =
    (omega (arith, c.figure-a.ensures.0, c.figure-b.ensures.0, c.percent.ensures.0), front (then (then c.figure-a.ensures.1 c.figure-b.ensures.1) (rw c.hundredths-h.ensures at c.percent.ensures.1)))
