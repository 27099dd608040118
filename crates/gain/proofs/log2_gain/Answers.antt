-- `gain::log2_gain` meets its contract. Assumes nothing.
use mir.Syntax.{w16, w32}
use Rattle.laws.specs.Back.{via}
use Rattle.gain.specs.Gain.{log2_gain}
use Rattle.gain.proofs.log2_gain.Goals as goal

pub returns : goal.returns
unfolding log2_gain
returns c =
    cc (via w32 c.l_shr.result c.l_shr.type_inv, via w32 c.l_mult.result c.l_mult.type_inv, via w16 c.scalars-factor.result c.scalars-factor.type_inv, via w16 c.extract_h-g.result c.extract_h-g.type_inv, via w32 c.prediction.result c.prediction.type_inv, via w32 c.mean_and_energy.result c.mean_and_energy.type_inv)
