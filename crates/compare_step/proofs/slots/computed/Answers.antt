-- `slots::computed` meets its contract: `block::words` from the place of the samples on.
use Rattle.compare_step.specs.Slots.{computed}
use Rattle.compare_step.proofs.slots.computed.Goals as goal

pub returns : goal.returns
unfolding computed
returns c = c.words.ensures
