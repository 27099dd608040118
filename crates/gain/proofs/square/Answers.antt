-- `gain::square` meets its contract. Assumes nothing.
use mir.Syntax.{w16, w64}
use mir.Facts.{to_z-of_z}
use Rattle.laws.specs.Range.{fits_mul}
use Rattle.laws.specs.Back.{widens, wide, still}
use Rattle.gain.proofs.square.Goals as goal

pub overflow_mul-result : goal.overflow_mul-result
overflow_mul-result c = fits_mul w16 w16 w64 _ _ (still w64 tt c.ranges.x) (still w64 tt c.ranges.x) tt

pub returns : goal.returns
returns c = cc (wide w64 tt c.ranges.x, to_z-of_z (overflow_mul-result c))

pub overflow_cast-result : goal.overflow_cast-result
overflow_cast-result c = widens w64 tt c.ranges.x

pub overflow_cast-result-2 : goal.overflow_cast-result-2
overflow_cast-result-2 c = widens w64 tt c.ranges.x
