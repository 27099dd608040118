-- `adaptive::phase` meets its contract. Assumes nothing.
use mir.Facts.{to_z-of_z}
use Rattle.adaptive.specs.Adaptive.{phase}
use Rattle.adaptive.proofs.phase.Goals as goal

pub returns-then-frac-lt0 : goal.returns-then-frac-lt0
unfolding phase
returns-then-frac-lt0 c = rw (rw (to_z-of_z c.ranges.frac) at c.if-frac-lt0.true)

pub returns-then-frac-gt0 : goal.returns-then-frac-gt0
unfolding phase
returns-then-frac-gt0 c =
    let e = to_z-of_z c.ranges.frac in
    rw (rw e at c.if-frac-lt0.false, rw e at c.if-frac-gt0.true)

pub returns : goal.returns
unfolding phase
returns c =
    let e = to_z-of_z c.ranges.frac in
    rw (rw e at c.if-frac-lt0.false, rw e at c.if-frac-gt0.false)
