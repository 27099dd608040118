-- `basic_op::round` meets its contract. Assumes nothing.
use mir.Syntax.{w16, w32}
use mir.Facts.{to_z-of_z}
use Rattle.basic_op.specs.Ops.{round}
use Rattle.laws.specs.Back.{via}
use Rattle.basic_op.proofs.round.Goals as goal

pub returns : goal.returns
unfolding round
returns c =
    cc (via w16 c.extract_h.result c.extract_h.type_inv, via w32 c.l_add.result c.l_add.type_inv, to_z-of_z c.ranges.x)
