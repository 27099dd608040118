-- `parameters::sharpened` meets its contract: the calls, one after the other.
use Prim.Native.Nat.{◌<◌}
use lib.Signed.{mag}
use mir.Syntax.{w16}
use Rattle.laws.specs.Back.{via}
use mir.Facts.{to_z-of_z}
use Rattle.parameters.specs.Parameters.{sharpened}
use Rattle.std.proofs.Common.{rules}
use Rattle.parameters.proofs.sharpened.Goals as goal
use Rattle.parameters.proofs.sharpened.Goals.{Start}

known : (c : Start) → mag c.args.delay.integer < 32768
known c = search rules

pub returns : goal.returns
unfolding sharpened
returns c =
    cc (via w16 c.scalars-positive.result c.scalars-positive.type_inv, via w16 c.args.delay.integer (known (goal.at.returns c).Start), to_z-of_z c.ranges.beta)
