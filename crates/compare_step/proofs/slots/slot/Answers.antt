-- `slots::slot` meets its contract: `block::words` from the slot's place on.
use Rattle.compare_step.specs.Slots.{slot}
use Rattle.compare_step.proofs.slots.slot.Goals as goal

pub returns : goal.returns
unfolding slot
returns c = c.words.ensures
