-- `synth_filter::product` meets its contract: a product of two words is well within 32 bits.
use mir.Syntax.{w16, w32, w64}
use mir.Facts.{to_z-of_z}
use Rattle.laws.specs.Range.{fits_mul}
use Rattle.laws.specs.Back.{widens, wide, still}
use Rattle.synth_filter.proofs.product.Goals as goal

pub overflow_mul-result : goal.overflow_mul-result
overflow_mul-result c = fits_mul w16 w16 w64 _ _ (still w64 tt c.ranges.a) (still w64 tt c.ranges.b) tt

pub returns : goal.returns
returns c = record { value = cc (to_z-of_z (overflow_mul-result c), wide w64 tt c.ranges.a, wide w64 tt c.ranges.b); result_bound = rw (to_z-of_z (overflow_mul-result c)) (fits_mul w16 w16 w32 _ _ (still w64 tt c.ranges.a) (still w64 tt c.ranges.b) tt).sfits }

pub overflow_cast-result : goal.overflow_cast-result
overflow_cast-result c = widens w64 tt c.ranges.a

pub overflow_cast-result-2 : goal.overflow_cast-result-2
overflow_cast-result-2 c = widens w64 tt c.ranges.b
