-- `delay_line::three` meets its contract: four times a number of 16 bits has room in 32.
use mathlib.Core.Path.{◌∙◌}
use mir.Syntax.{w32}
use mir.Facts.{to_z-of_z}
use Rattle.laws.specs.Back.{widens, wide, still}
use Rattle.delay_line.specs.Laws.{fits_three, fits_sum}
use Rattle.delay_line.proofs.three.Goals as goal

pub overflow_mul-result : goal.overflow_mul-result
overflow_mul-result c = fits_three _ (still w32 tt c.ranges.integer)

pub overflow_add-result : goal.overflow_add-result
overflow_add-result c = rw (to_z-of_z (overflow_mul-result c), wide w32 tt c.ranges.integer, wide w32 tt c.ranges.fraction) (fits_sum _ _ c.ranges.integer c.ranges.fraction)

pub returns : goal.returns
returns c = to_z-of_z (overflow_add-result c) ∙ rw (to_z-of_z (overflow_mul-result c), wide w32 tt c.ranges.integer, wide w32 tt c.ranges.fraction)

pub overflow_cast-result : goal.overflow_cast-result
overflow_cast-result c = widens w32 tt c.ranges.integer

pub overflow_cast-result-2 : goal.overflow_cast-result-2
overflow_cast-result-2 c = widens w32 tt c.ranges.fraction
