-- `lpc::coefficients` meets its contract: a word at a time. Assumes nothing.
use mir.Syntax.{w16}
use Rattle.laws.specs.Back.{via}
use Rattle.laws.specs.Lists.{tab}
use Rattle.lpc.specs.Lpc.{coefficient}
use Rattle.lpc.proofs.coefficients.Goals as goal

pub returns : goal.returns
unfolding coefficient tab
returns c =
    cc (
      via w16 c.half_difference-a10.result c.half_difference-a10.type_inv,
      via w16 c.half_difference-a9.result c.half_difference-a9.type_inv,
      via w16 c.half_difference-a8.result c.half_difference-a8.type_inv,
      via w16 c.half_difference-a7.result c.half_difference-a7.type_inv,
      via w16 c.half_difference-a6.result c.half_difference-a6.type_inv,
      via w16 c.half_sum-a5.result c.half_sum-a5.type_inv,
      via w16 c.half_sum-a4.result c.half_sum-a4.type_inv,
      via w16 c.half_sum-a3.result c.half_sum-a3.type_inv,
      via w16 c.half_sum-a2.result c.half_sum-a2.type_inv,
      via w16 c.half_sum-a1.result c.half_sum-a1.type_inv,
    )
