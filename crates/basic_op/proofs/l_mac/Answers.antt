-- `basic_op::l_mac` meets its contract. Assumes nothing.
use mir.Syntax.{w32}
use mir.Facts.{to_z-of_z}
use Rattle.basic_op.specs.Ops.{l_mac}
use Rattle.laws.specs.Back.{via}
use Rattle.basic_op.proofs.l_mac.Goals as goal

pub returns : goal.returns
unfolding l_mac
returns c =
    cc (via w32 c.l_add.result c.l_add.type_inv, via w32 c.l_mult.result c.l_mult.type_inv, to_z-of_z c.ranges.acc, to_z-of_z c.ranges.a, to_z-of_z c.ranges.b)
