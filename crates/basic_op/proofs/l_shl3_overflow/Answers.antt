-- `basic_op::l_shl3_overflow` meets its contract. Assumes nothing.
use lib.Dec.{lit<, lit≤}
use mir.Syntax.{w32, w64}
use mir.Facts.{to_z-of_z}
use Rattle.basic_op.specs.Ops.{l_shl3_overflow}
use Rattle.laws.specs.Range.{fits_scale}
use Rattle.laws.specs.Back.{widens, wide, still}
use Rattle.basic_op.proofs.l_shl3_overflow.Goals as goal

pub overflow_mul-x : goal.overflow_mul-x
overflow_mul-x c = fits_scale w32 w64 _ 8 (still w64 tt c.ranges.x) (lit< tt) (lit≤ tt)

pub returns : goal.returns
unfolding l_shl3_overflow
returns c = cc (wide w64 tt c.ranges.x, to_z-of_z (overflow_mul-x c.before))

pub overflow_cast-x : goal.overflow_cast-x
overflow_cast-x c = widens w64 tt c.ranges.x
