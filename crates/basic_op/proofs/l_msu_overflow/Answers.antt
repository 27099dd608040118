-- `basic_op::l_msu_overflow` meets its contract. Assumes nothing.
use mir.Syntax.{w32, w64}
use mir.Facts.{to_z-of_z}
use Rattle.basic_op.specs.Ops.{l_msu_overflow}
use Rattle.laws.specs.Range.{fits_sub}
use Rattle.laws.specs.Back.{fits_by, widens, wide, still}
use Rattle.basic_op.proofs.l_msu_overflow.Goals as goal

pub overflow_sub-acc : goal.overflow_sub-acc
overflow_sub-acc c = fits_sub w32 w32 w64 _ _ (still w64 tt c.ranges.acc) (still w64 tt (fits_by w32 c.l_mult.result c.l_mult.type_inv)) tt

pub returns : goal.returns
unfolding l_msu_overflow
returns c =
    cc (wide w64 tt (fits_by w32 c.l_mult.result c.l_mult.type_inv), wide w64 tt c.ranges.acc, to_z-of_z c.ranges.a, to_z-of_z c.ranges.b, to_z-of_z (overflow_sub-acc c.before))

pub overflow_cast-acc : goal.overflow_cast-acc
overflow_cast-acc c = widens w64 tt c.ranges.acc

pub overflow_cast-l_mult : goal.overflow_cast-l_mult
overflow_cast-l_mult c = widens w64 tt (fits_by w32 c.l_mult.result c.l_mult.type_inv)
