-- `g711::Form::byte` meets its contract.
use mir.Facts.{to_z-of_z}
use Rattle.g711.specs.Fast.{found_byte}
use Rattle.g711.proofs.Form.byte.Goals as goal

pub returns : goal.returns
unfolding found_byte
returns c = rw (c.sign_bit.ensures, c.segment_less.ensures.0, c.biased.ensures.0, c.leading.ensures.0, c.sized.ensures.0, to_z-of_z c.ranges.z)
