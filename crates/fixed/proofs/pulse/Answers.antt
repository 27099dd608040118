-- `fixed::pulse` meets its contract. Assumes nothing.
use borrow.Author.Tests.{eq-eqb, ne_eqb}
use mir.Facts.{to_z-of_z}
use Rattle.fixed.specs.Fixed.{pulse}
use Rattle.fixed.proofs.pulse.Goals as goal

pub returns-then-sign-k-eq1 : goal.returns-then-sign-k-eq1
unfolding pulse
returns-then-sign-k-eq1 c = rw (eq-eqb _ 1 c.if-sign-k-eq1.true) (to_z-of_z c.ranges.positive)

pub returns-else-sign-k-eq1 : goal.returns-else-sign-k-eq1
unfolding pulse
returns-else-sign-k-eq1 c = rw (ne_eqb _ 1 c.if-sign-k-eq1.false)
