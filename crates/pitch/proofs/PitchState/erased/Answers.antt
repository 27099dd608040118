-- `pitch::PitchState::erased` meets its contract. Assumes nothing.
use Rattle.pitch.specs.Pitch.{erased}
use Rattle.pitch.proofs.PitchState.erased.Goals as goal

pub returns : goal.returns
unfolding erased
returns c i = record { delay = c.carried-delay.ensures i; state = c.increased-state.ensures i }
