-- `basic_op::l_add` meets its contract. Assumes nothing.
use mir.Syntax.{w32, w64}
use mir.Facts.{to_z-of_z}
use Rattle.basic_op.specs.Ops.{l_add}
use Rattle.laws.specs.Range.{fits_add}
use Rattle.laws.specs.Back.{via, widens, wide, still}
use Rattle.basic_op.proofs.l_add.Goals as goal

pub overflow_add-a : goal.overflow_add-a
overflow_add-a c = fits_add w32 w32 w64 _ _ (still w64 tt c.ranges.a) (still w64 tt c.ranges.b) tt

pub returns : goal.returns
unfolding l_add
returns c = cc (via w32 c.sat32.result c.sat32.type_inv, wide w64 tt c.ranges.a, wide w64 tt c.ranges.b, to_z-of_z (overflow_add-a c.before))

pub overflow_cast-a : goal.overflow_cast-a
overflow_cast-a c = widens w64 tt c.ranges.a

pub overflow_cast-b : goal.overflow_cast-b
overflow_cast-b c = widens w64 tt c.ranges.b
