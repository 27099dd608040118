-- `pitch::PitchState::second` meets its contract. Assumes nothing.
use mir.Facts.{to_z-of_z}
use Rattle.pitch.specs.Pitch.{second}
use Rattle.pitch.proofs.PitchState.second.Goals as goal

pub returns : goal.returns
unfolding second
returns c = rw (c.track.ensures, c.decode_t2.ensures, to_z-of_z c.ranges.t1)
