-- `basic_op::l_mult` meets its contract. Assumes nothing.
use lib.IntN.{pos}
use mir.Syntax.{w16, w32, w64}
use mir.Facts.{to_z-of_z, sfits_lit}
use Rattle.basic_op.specs.Ops.{l_mult}
use Rattle.laws.specs.Range.{fits_mul}
use Rattle.laws.specs.Back.{via, keep, widens, wide, still}
use Rattle.basic_op.proofs.l_mult.Goals as goal

pub overflow_mul-a : goal.overflow_mul-a
overflow_mul-a c = fits_mul w16 w16 w64 _ _ (still w64 tt c.ranges.a) (still w64 tt c.ranges.b) tt

pub overflow_mul-a-2 : goal.overflow_mul-a-2
overflow_mul-a-2 c = fits_mul w16 w32 w64 (pos 2) _ (sfits_lit tt) (keep w64 tt (fits_mul w16 w16 w32 _ _ (still w64 tt c.ranges.a) (still w64 tt c.ranges.b) tt)) tt

pub returns : goal.returns
unfolding l_mult
returns c =
    cc (via w32 c.sat32.result c.sat32.type_inv, wide w64 tt c.ranges.a, wide w64 tt c.ranges.b, to_z-of_z (overflow_mul-a c.before), to_z-of_z (overflow_mul-a-2 c.before))

pub overflow_cast-a : goal.overflow_cast-a
overflow_cast-a c = widens w64 tt c.ranges.a

pub overflow_cast-b : goal.overflow_cast-b
overflow_cast-b c = widens w64 tt c.ranges.b
