-- `basic_op::split_high_low` meets its contract. Assumes nothing.
use mir.Syntax.{w16, w32}
use mir.Facts.{to_z-of_z}
use Rattle.laws.specs.Back.{via}
use Rattle.basic_op.specs.Oper32b.{split_high_low}
use Rattle.basic_op.proofs.split_high_low.Goals as goal

pub returns : goal.returns
unfolding split_high_low
returns c =
    cc (via w16 c.extract_l.result c.extract_l.type_inv, via w32 c.l_msu-remainder.result c.l_msu-remainder.type_inv, via w32 c.sar32.result c.sar32.type_inv, via w16 c.extract_h-upper.result c.extract_h-upper.type_inv, to_z-of_z c.ranges.value)
