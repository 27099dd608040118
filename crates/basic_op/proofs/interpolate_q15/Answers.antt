-- `basic_op::interpolate_q15` meets its contract. Assumes nothing.
use mir.Syntax.{w16, w32}
use mir.Facts.{to_z-of_z}
use Rattle.laws.specs.Back.{via}
use Rattle.basic_op.specs.Oper32b.{interpolate_q15}
use Rattle.basic_op.proofs.interpolate_q15.Goals as goal

pub returns : goal.returns
unfolding interpolate_q15
returns c =
    cc (via w32 c.l_msu.result c.l_msu.type_inv, via w16 c.sub.result c.sub.type_inv, via w32 c.l_deposit_h.result c.l_deposit_h.type_inv, to_z-of_z c.ranges.entry, to_z-of_z c.ranges.next, to_z-of_z c.ranges.weight)
