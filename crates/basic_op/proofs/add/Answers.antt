-- `basic_op::add` meets its contract. Assumes nothing.
use mir.Syntax.{w16, w32}
use mir.Facts.{to_z-of_z}
use Rattle.basic_op.specs.Ops.{add}
use Rattle.laws.specs.Range.{fits_add}
use Rattle.laws.specs.Back.{via, widens, wide, still}
use Rattle.basic_op.proofs.add.Goals as goal

pub overflow_add-a : goal.overflow_add-a
overflow_add-a c = fits_add w16 w16 w32 _ _ (still w32 tt c.ranges.a) (still w32 tt c.ranges.b) tt

pub returns : goal.returns
unfolding add
returns c = cc (via w16 c.sat16.result c.sat16.type_inv, wide w32 tt c.ranges.a, wide w32 tt c.ranges.b, to_z-of_z (overflow_add-a c.before))

pub overflow_cast-a : goal.overflow_cast-a
overflow_cast-a c = widens w32 tt c.ranges.a

pub overflow_cast-b : goal.overflow_cast-b
overflow_cast-b c = widens w32 tt c.ranges.b
