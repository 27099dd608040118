-- `compare_step::tells` meets its contract: its four tests.
use mir.Facts.{to_z-of_z}
use Rattle.compare_step.specs.Compare.{tells}
use Rattle.compare_step.proofs.tells.Goals as goal

pub returns : goal.returns
unfolding tells
returns c =
    rw (to_z-of_z c.ranges.n, c.bounded.ensures, c.bounded-2.ensures, c.inside.ensures)
