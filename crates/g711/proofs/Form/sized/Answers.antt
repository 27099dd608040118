-- `g711::Form::sized` meets its contract.
use mir.Facts.{to_z-of_z}
use Rattle.std.proofs.Common.{◌∙◌, arith}
use Rattle.g711.specs.Fast.{sized}
use Rattle.g711.proofs.Form.sized.Goals as goal

pub returns : goal.returns
unfolding sized
returns c = (c.lifted.ensures.0 ∙ rw (c.biased.ensures.0, to_z-of_z c.ranges.z), omega (arith, c.lifted.ensures.1, c.biased.ensures.1))
