-- `replay::tally::Tally::word` meets its contract.
use mathlib.Core.Path.{◌∙◌}
use mir.Facts.{to_z-of_z}
use Rattle.replay.specs.Replay.{unequal}
use Rattle.replay.proofs.tally.Tally.word.Goals as goal

pub returns : goal.returns
unfolding unequal
returns c =
    c.count.ensures ∙ rw (c.low16-second.ensures, c.low16-first.ensures, to_z-of_z c.ranges.expected, to_z-of_z c.ranges.found)
