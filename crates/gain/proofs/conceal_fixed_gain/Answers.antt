-- `gain::conceal_fixed_gain` meets its contract. Assumes nothing.
use mir.Syntax.{w16}
use mir.Facts.{to_z-of_z}
use Rattle.laws.specs.Back.{via}
use Rattle.gain.specs.Gain.{conceal_fixed_gain}
use Rattle.gain.proofs.conceal_fixed_gain.Goals as goal

pub returns : goal.returns
unfolding conceal_fixed_gain
returns c = cc (via w16 c.mult.result c.mult.type_inv, via w16 c.scalars-factor.result c.scalars-factor.type_inv, to_z-of_z c.ranges.gc)
