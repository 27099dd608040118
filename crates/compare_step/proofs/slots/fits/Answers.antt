-- `slots::fits` meets its contract.
use mir.Syntax.{w16}
use Rattle.laws.specs.Back.{via}
use Rattle.compare_step.proofs.slots.fits.Goals as goal

pub returns : goal.returns
returns c = rw (via w16 c.fit.result c.fit.type_inv, c.fit.ensures)
