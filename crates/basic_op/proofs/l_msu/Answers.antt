-- `basic_op::l_msu` meets its contract. Assumes nothing.
use mir.Syntax.{w32}
use mir.Facts.{to_z-of_z}
use Rattle.basic_op.specs.Ops.{l_msu}
use Rattle.laws.specs.Back.{via}
use Rattle.basic_op.proofs.l_msu.Goals as goal

pub returns : goal.returns
unfolding l_msu
returns c =
    cc (via w32 c.l_sub.result c.l_sub.type_inv, via w32 c.l_mult.result c.l_mult.type_inv, to_z-of_z c.ranges.acc, to_z-of_z c.ranges.a, to_z-of_z c.ranges.b)
