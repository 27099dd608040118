-- `gain::conceal_pitch_gain` meets its contract. Assumes nothing.
use mir.Syntax.{w16}
use mir.Facts.{to_z-of_z}
use Rattle.laws.specs.Back.{via}
use Rattle.basic_op.specs.Laws.{lesser_is}
use Rattle.gain.specs.Gain.{conceal_pitch_gain}
use Rattle.gain.proofs.conceal_pitch_gain.Goals as goal

pub returns : goal.returns
unfolding conceal_pitch_gain
returns c = cc (via w16 c.min.result c.min.type_inv, lesser_is _ _, via w16 c.mult.result c.mult.type_inv, via w16 c.scalars-limit.result c.scalars-limit.type_inv, to_z-of_z c.ranges.gp)
