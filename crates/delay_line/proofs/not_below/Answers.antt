-- `delay_line::not_below` meets its contract. Assumes nothing.
use mir.Syntax.{w32}
use mir.Facts.{to_z-of_z, Fits-nat_abs}
use Rattle.laws.specs.Range.{abs_part}
use Rattle.laws.specs.Back.{keep, nonneg_of}
use Rattle.pitch.specs.Laws.{nat_neg, nat_of_abs}
use Rattle.delay_line.proofs.not_below.Goals as goal

pub returns-then-z-lt0 : goal.returns-then-z-lt0
returns-then-z-lt0 c = nat_neg (to_z-of_z c.ranges.z) c.if-z-lt0.true

pub overflow_cast-result : goal.overflow_cast-result
overflow_cast-result c = (nonneg_of (abs_part (to_z-of_z c.ranges.z) c.if-z-lt0.false), Fits-nat_abs tt (keep w32 tt c.ranges.z))

pub returns : goal.returns
returns c = nat_of_abs (to_z-of_z c.ranges.z) c.if-z-lt0.false
