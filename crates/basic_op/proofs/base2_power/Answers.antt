-- `basic_op::base2_power` meets its contract. Assumes nothing.
use Prim.Native.Nat.{◌*◌, ◌%◌}
use native.Mathlib.Omega.{arith}
use mir.Syntax.{w16, w32}
use mir.ValLaws.{to_z_pos}
use mir.Facts.{to_z-of_z}
use Rattle.laws.specs.Back.{via}
use Rattle.basic_op.specs.Oper32b.{base2_power}
use Rattle.basic_op.proofs.base2_power.Goals as goal

pub returns : goal.returns
unfolding base2_power
returns c =
    cc (
      via w32 c.l_shr_r.result c.l_shr_r.type_inv,
      via w16 c.sub.result c.sub.type_inv,
      via w32 c.interpolate_q15-mantissa.result c.interpolate_q15-mantissa.type_inv,
      via w16 c.pow2-2.result c.pow2-2.type_inv,
      via w16 c.pow2.result c.pow2.type_inv,
      to_z_pos w16 (32 * (c.low16-f.result % 1024)) (omega arith),
      to_z-of_z c.ranges.integer,
      to_z-of_z c.ranges.fraction,
    )
