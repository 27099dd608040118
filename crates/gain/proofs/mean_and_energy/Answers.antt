-- `gain::mean_and_energy` meets its contract. Assumes nothing.
use Prim.Native.Nat.{◌<◌}
use lib.Signed.{mag}
use mir.Syntax.{w16, w32}
use Rattle.laws.specs.Back.{via}
use Rattle.gain.specs.Gain.{mean_and_energy}
use Rattle.std.proofs.Common.{rules}
use Rattle.gain.proofs.mean_and_energy.Goals as goal
use Rattle.gain.proofs.mean_and_energy.Goals.{After-base2_log-e}

parts : (c : After-base2_log-e) → (mag c.base2_log-e.result.integer < 32768) × (mag c.base2_log-e.result.fraction < 32768)
parts c = search rules

pub returns : goal.returns
unfolding mean_and_energy
returns c =
    cc (
      via w32 c.l_shl.result c.l_shl.type_inv,
      via w32 c.l_mac.result c.l_mac.type_inv,
      via w32 c.multiply_split_by_16-l.result c.multiply_split_by_16-l.type_inv,
      via w16 c.scalars-multiplier.result c.scalars-multiplier.type_inv,
      via w16 c.scalars-mantissa.result c.scalars-mantissa.type_inv,
      via w16 c.scalars-scale.result c.scalars-scale.type_inv,
      via w16 c.base2_log-e.result.integer (parts c.before.before.before.before.before.before.before.before).0,
      via w16 c.base2_log-e.result.fraction (parts c.before.before.before.before.before.before.before.before).1,
      via w32 c.energy.result c.energy.type_inv,
    )
