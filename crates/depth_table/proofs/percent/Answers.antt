-- `depth_table::percent` meets its contract.
use native.Mathlib.Omega.{arith}
use Rattle.text.specs.Laws.{then, kept}
use Rattle.depth_table.specs.Table.{percent}
use Rattle.depth_table.specs.Laws.{length_two}
use Rattle.depth_table.proofs.percent.Goals as goal

pub put-requires : goal.put-requires
put-requires c =
    omega (arith, c.requires, c.figure-a.ensures.0, c.put-b.ensures.place, c.two-c.ensures.place, length_two c.args.h, kept c.figure-a.ensures.1, kept c.put-b.ensures, kept c.two-c.ensures)

pub returns : goal.returns
unfolding percent
returns c = (
  omega (arith, c.figure-a.ensures.0, c.put-b.ensures.place, c.two-c.ensures.place, length_two c.args.h, c.put.ensures.place),
  then (then (then c.figure-a.ensures.1 c.put-b.ensures) c.two-c.ensures) c.put.ensures,
)
