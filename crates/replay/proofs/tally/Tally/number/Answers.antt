-- `replay::tally::Tally::number` meets its contract.
use mathlib.Core.Path.{◌∙◌}
use Rattle.replay.proofs.tally.Tally.number.Goals as goal

pub returns : goal.returns
returns c = c.count.ensures ∙ rw c.number.ensures
