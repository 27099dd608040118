-- `basic_op::round_overflow` meets its contract. Assumes nothing.
use lib.IntN.{pos}
use mir.Syntax.{w32, w64}
use mir.Facts.{to_z-of_z, sfits_lit}
use Rattle.basic_op.specs.Ops.{round_overflow}
use Rattle.laws.specs.Range.{fits_add}
use Rattle.laws.specs.Back.{widens, wide, still}
use Rattle.basic_op.proofs.round_overflow.Goals as goal

pub overflow_add-x : goal.overflow_add-x
overflow_add-x c = fits_add w32 w32 w64 _ (pos 32768) (still w64 tt c.ranges.x) (sfits_lit tt) tt

pub returns : goal.returns
unfolding round_overflow
returns c = cc (wide w64 tt c.ranges.x, to_z-of_z (overflow_add-x c.before))

pub overflow_cast-x : goal.overflow_cast-x
overflow_cast-x c = widens w64 tt c.ranges.x
