-- `lpc::step` meets its contract: operators in a row, after the doubled product. Assumes nothing.
use mir.Syntax.{w32, w64}
use mir.Facts.{to_z-of_z}
use Rattle.laws.specs.Back.{via}
use Rattle.basic_op.specs.Oper32b.{multiply_32_by_16}
use Rattle.lpc.specs.Lpc.{step}
use Rattle.lpc.specs.Small.{twice}
use Rattle.lpc.proofs.step.Goals as goal

pub returns : goal.returns
unfolding step
returns c =
    cc (
      via w32 c.l_add.result c.l_add.type_inv,
      via w32 c.l_sub.result c.l_sub.type_inv,
      via w32 c.sat32-doubled.result c.sat32-doubled.type_inv,
      via w64 c.twice_product.result c.twice_product.type_inv,
      to_z-of_z c.ranges.previous,
      to_z-of_z c.ranges.q,
      to_z-of_z c.ranges.same,
      to_z-of_z c.ranges.older,
      twice (multiply_32_by_16 c.args.previous c.args.q),
    )
