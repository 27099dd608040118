-- `gain::pitch_gain` meets its contract. Assumes nothing.
use mir.Syntax.{w16}
use Rattle.laws.specs.Back.{via}
use Rattle.gain.proofs.pitch_gain.Goals as goal

pub returns : goal.returns
returns c = cc (via w16 c.add.result c.add.type_inv, via w16 c.gain_gb.result c.gain_gb.type_inv, via w16 c.gain_ga.result c.gain_ga.type_inv)
