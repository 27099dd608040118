-- `basic_op::l_sub` meets its contract. Assumes nothing.
use mir.Syntax.{w32, w64}
use mir.Facts.{to_z-of_z}
use Rattle.basic_op.specs.Ops.{l_sub}
use Rattle.laws.specs.Range.{fits_sub}
use Rattle.laws.specs.Back.{via, widens, wide, still}
use Rattle.basic_op.proofs.l_sub.Goals as goal

pub overflow_sub-a : goal.overflow_sub-a
overflow_sub-a c = fits_sub w32 w32 w64 _ _ (still w64 tt c.ranges.a) (still w64 tt c.ranges.b) tt

pub returns : goal.returns
unfolding l_sub
returns c = cc (via w32 c.sat32.result c.sat32.type_inv, wide w64 tt c.ranges.a, wide w64 tt c.ranges.b, to_z-of_z (overflow_sub-a c.before))

pub overflow_cast-a : goal.overflow_cast-a
overflow_cast-a c = widens w64 tt c.ranges.a

pub overflow_cast-b : goal.overflow_cast-b
overflow_cast-b c = widens w64 tt c.ranges.b
