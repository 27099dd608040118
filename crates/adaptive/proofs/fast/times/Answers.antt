-- `adaptive::fast::times` meets its contract. Assumes nothing.
use mir.Syntax.{w16, w32}
use mir.Facts.{to_z-of_z, sfits_widen}
use Rattle.laws.specs.Range.{fits_mul}
use Rattle.laws.specs.Back.{keep}
use Rattle.adaptive.proofs.fast.times.Goals as goal

pub overflow_cast-result : goal.overflow_cast-result
overflow_cast-result c = sfits_widen tt (keep w16 tt c.ranges.a)

pub overflow_cast-result-2 : goal.overflow_cast-result-2
overflow_cast-result-2 c = sfits_widen tt (keep w16 tt c.ranges.b)

pub overflow_mul-result : goal.overflow_mul-result
overflow_mul-result c = fits_mul w16 w16 w32 _ _ (keep w32 tt (keep w16 tt c.ranges.a)) (keep w32 tt (keep w16 tt c.ranges.b)) tt

pub returns : goal.returns
returns c = cc (to_z-of_z c.ranges.a, to_z-of_z c.ranges.b, to_z-of_z (overflow_cast-result c), to_z-of_z (overflow_cast-result-2 c), to_z-of_z (overflow_mul-result c))
