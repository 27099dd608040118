-- `gain::gain_error` meets its contract. Assumes nothing.
use Prim.Native.Nat.{◌<◌}
use lib.Signed.{mag}
use mir.Syntax.{w16, w32}
use mir.Facts.{to_z-of_z}
use Rattle.laws.specs.Back.{via}
use Rattle.std.proofs.Common.{rules}
use Rattle.gain.proofs.gain_error.Goals as goal
use Rattle.gain.proofs.gain_error.Goals.{After-base2_log-e}

parts : (c : After-base2_log-e) → (mag c.base2_log-e.result.integer < 32768) × (mag c.base2_log-e.result.fraction < 32768)
parts c = search rules

pub returns : goal.returns
returns c =
    cc (
      via w16 c.mult.result c.mult.type_inv,
      via w16 c.extract_h.result c.extract_h.type_inv,
      via w32 c.l_shl.result c.l_shl.type_inv,
      via w16 c.scalars-factor.result c.scalars-factor.type_inv,
      via w32 c.join_high_low-l.result c.join_high_low-l.type_inv,
      via w16 c.sub.result c.sub.type_inv,
      via w16 c.base2_log-e.result.integer (parts c.before.before.before.before.before.before.before.before).0,
      via w16 c.base2_log-e.result.fraction (parts c.before.before.before.before.before.before.before.before).1,
      to_z-of_z c.ranges.g,
    )
