-- `depth_table::hundredths` meets its contract.
use native.Mathlib.Omega.{arith}
use borrow.Author.Tests.{eq-eqb, ne_eqb}
use Rattle.depth_table.specs.Table.{hundredths}
use Rattle.depth_table.specs.Laws.{at_most_all}
use Rattle.depth_table.proofs.hundredths.Goals as goal

pub returns-then-frames-eq0 : goal.returns-then-frames-eq0
unfolding hundredths
returns-then-frames-eq0 c = rw (eq-eqb _ _ c.if-frames-eq0.true)

pub overflow_cast-result : goal.overflow_cast-result
overflow_cast-result c =
    rw (c.from.ensures, c.from-2.ensures, c.min.ensures) (record { fits = omega (arith, at_most_all c.args.lost c.args.frames) })

pub returns : goal.returns
unfolding hundredths
returns c =
    rw (ne_eqb _ _ c.if-frames-eq0.false, c.from.ensures, c.from-2.ensures, c.min.ensures)
