-- `basic_op::multiply_split_by_16` meets its contract. Assumes nothing.
use mir.Syntax.{w16, w32}
use mir.Facts.{to_z-of_z}
use Rattle.laws.specs.Back.{via}
use Rattle.basic_op.specs.Oper32b.{multiply_split_by_16}
use Rattle.basic_op.proofs.multiply_split_by_16.Goals as goal

pub returns : goal.returns
unfolding multiply_split_by_16
returns c =
    cc (via w32 c.l_mac.result c.l_mac.type_inv, via w16 c.mult.result c.mult.type_inv, via w32 c.l_mult.result c.l_mult.type_inv, to_z-of_z c.ranges.upper, to_z-of_z c.ranges.lower, to_z-of_z c.ranges.factor)
