-- `gain::decode` meets its contract: the rows and the correction factor, read once, are those of both gains. Assumes nothing.
use mir.Syntax.{w16, w32}
use Rattle.laws.specs.Back.{via}
use Rattle.gain.specs.Gain.{decode, gain_error, pitch_gain, fixed_gain, gamma}
use Rattle.gain.proofs.decode.Goals as goal

pub returns : goal.returns
unfolding decode gain_error pitch_gain fixed_gain gamma
returns c =
    cc (via w16 c.fixed_gain.result c.fixed_gain.type_inv, via w16 c.pitch_gain.result c.pitch_gain.type_inv, via w16 c.gain_error.result c.gain_error.type_inv, via w32 c.gamma-g.result c.gamma-g.type_inv)
