-- `basic_op::l_deposit_h` meets its contract. Assumes nothing.
use lib.Dec.{lit<, lit≤}
use mir.Syntax.{w16, w32}
use mir.Facts.{to_z-of_z}
use Rattle.basic_op.specs.Ops.{l_deposit_h}
use Rattle.laws.specs.Range.{fits_scale}
use Rattle.laws.specs.Back.{widens, wide, still}
use Rattle.basic_op.proofs.l_deposit_h.Goals as goal

pub overflow_mul-result : goal.overflow_mul-result
overflow_mul-result c = fits_scale w16 w32 _ 65536 (still w32 tt c.ranges.a) (lit< tt) (lit≤ tt)

pub returns : goal.returns
unfolding l_deposit_h
returns c = cc (wide w32 tt c.ranges.a, to_z-of_z (overflow_mul-result c))

pub overflow_cast-result : goal.overflow_cast-result
overflow_cast-result c = widens w32 tt c.ranges.a
