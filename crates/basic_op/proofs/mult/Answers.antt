-- `basic_op::mult` meets its contract. Assumes nothing.
use mir.Syntax.{w16, w32}
use mir.Facts.{to_z-of_z}
use Rattle.basic_op.specs.Ops.{mult}
use Rattle.laws.specs.Range.{fits_mul}
use Rattle.laws.specs.Back.{via, widens, wide, still}
use Rattle.basic_op.proofs.mult.Goals as goal

pub overflow_mul-a : goal.overflow_mul-a
overflow_mul-a c = fits_mul w16 w16 w32 _ _ (still w32 tt c.ranges.a) (still w32 tt c.ranges.b) tt

pub returns : goal.returns
unfolding mult
returns c =
    cc (via w16 c.sat16.result c.sat16.type_inv, via w32 c.sar32.result c.sar32.type_inv, wide w32 tt c.ranges.a, wide w32 tt c.ranges.b, to_z-of_z (overflow_mul-a c.before.before))

pub overflow_cast-a : goal.overflow_cast-a
overflow_cast-a c = widens w32 tt c.ranges.a

pub overflow_cast-b : goal.overflow_cast-b
overflow_cast-b c = widens w32 tt c.ranges.b
