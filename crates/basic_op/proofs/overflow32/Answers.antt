-- `basic_op::overflow32` meets its contract. Assumes nothing.
use mir.Facts.{to_z-of_z}
use Rattle.basic_op.specs.Ops.{overflow}
use Rattle.basic_op.proofs.overflow32.Goals as goal

pub returns : goal.returns
unfolding overflow
returns c = rw (to_z-of_z c.ranges.x)
