-- `adaptive::lag` meets its contract. Assumes nothing.
use mir.Facts.{to_z-of_z}
use Rattle.adaptive.specs.Adaptive.{lag}
use Rattle.adaptive.proofs.lag.Goals as goal

pub returns-then-frac-gt0 : goal.returns-then-frac-gt0
unfolding lag
returns-then-frac-gt0 c =
    rw (c.limited.ensures, c.nat-k.ensures, to_z-of_z c.ranges.t0, rw (to_z-of_z c.ranges.frac) at c.if-frac-gt0.true)

pub returns : goal.returns
unfolding lag
returns c =
    rw (c.limited-2.ensures, c.nat-k.ensures, to_z-of_z c.ranges.t0, rw (to_z-of_z c.ranges.frac) at c.if-frac-gt0.false)
