-- `basic_op::extract_h` meets its contract. Assumes nothing.
use mathlib.Core.Path.{◌∙◌}
use mir.Syntax.{w16, w32}
use mir.Facts.{to_z-of_z}
use Rattle.laws.specs.Range.{fits_shr_less}
use Rattle.laws.specs.Back.{via}
use Rattle.basic_op.specs.Ops.{extract_h}
use Rattle.basic_op.proofs.extract_h.Goals as goal

pub overflow_cast-result : goal.overflow_cast-result
overflow_cast-result c = rw (via w32 c.sar32.result c.sar32.type_inv, c.sar32.ensures, to_z-of_z c.ranges.x) (fits_shr_less w32 w16 16 _ tt c.ranges.x)

pub returns : goal.returns
unfolding extract_h
returns c = to_z-of_z (overflow_cast-result c) ∙ via w32 c.sar32.result c.sar32.type_inv ∙ c.sar32.ensures ∙ rw (to_z-of_z c.ranges.x)
