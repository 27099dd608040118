-- `basic_op::join_high_low` meets its contract. Assumes nothing.
use mir.Syntax.{w32}
use mir.Facts.{to_z-of_z}
use Rattle.laws.specs.Back.{via}
use Rattle.basic_op.specs.Oper32b.{join_high_low}
use Rattle.basic_op.proofs.join_high_low.Goals as goal

pub returns : goal.returns
unfolding join_high_low
returns c =
    cc (via w32 c.l_mac.result c.l_mac.type_inv, via w32 c.l_deposit_h.result c.l_deposit_h.type_inv, to_z-of_z c.ranges.upper, to_z-of_z c.ranges.lower)
