-- `gain::fixed_gain` meets its contract. Assumes nothing.
use Prim.Native.Nat.{◌<◌}
use lib.Signed.{mag}
use mir.Syntax.{w16, w32}
use mir.Facts.{to_z-of_z}
use Rattle.laws.specs.Back.{via}
use Rattle.std.proofs.Common.{rules}
use Rattle.gain.proofs.fixed_gain.Goals as goal
use Rattle.gain.proofs.fixed_gain.Goals.{Start}

parts : (c : Start) → (mag c.args.p.mantissa < 32768) × (mag c.args.p.exponent < 32768)
parts c = search rules

pub returns : goal.returns
returns c =
    cc (
      via w16 c.extract_h.result c.extract_h.type_inv,
      via w32 c.l_shr-2.result c.l_shr-2.type_inv,
      via w32 c.l_mult.result c.l_mult.type_inv,
      via w16 c.sub-shift.result c.sub-shift.type_inv,
      via w16 c.extract_l-factor.result c.extract_l-factor.type_inv,
      via w32 c.l_shr.result c.l_shr.type_inv,
      to_z-of_z c.ranges.g,
      via w16 c.args.p.mantissa (parts c.before.before.before.before.before.before.before.before).0,
      via w16 c.args.p.exponent (parts c.before.before.before.before.before.before.before.before).1,
    )
