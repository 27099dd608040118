-- `pitch::PitchState::first` meets its contract. Assumes nothing.
use Rattle.pitch.specs.Pitch.{first}
use Rattle.pitch.proofs.PitchState.first.Goals as goal

pub returns-then-ok : goal.returns-then-ok
unfolding first
returns-then-ok c = rw (c.track.ensures, c.decode_t1.ensures, c.if-ok.true)

pub returns : goal.returns
unfolding first
returns c = rw (c.track-2.ensures, c.carried.ensures, c.if-ok.false)
