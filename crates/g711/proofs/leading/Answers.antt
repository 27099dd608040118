-- `g711::leading` meets its contract: no number of 16 bits is a NaN.
use mathlib.Core.Path.{refl}
use native.Mathlib.Omega.{arith}
use Rattle.g711.specs.Fast.{leading}
use Rattle.g711.specs.Laws.{float_no_nan, leading_lt}
use Rattle.g711.proofs.leading.Goals as goal

pub float_to_bits-result : goal.float_to_bits-result
float_to_bits-result c = float_no_nan _ c.ranges.x.fits

pub overflow_cast-result : goal.overflow_cast-result
unfolding leading
overflow_cast-result c = omega (arith, leading_lt c.args.x)

pub returns : goal.returns
unfolding leading
returns c = (refl, leading_lt _)
