-- `compare_step::look` meets its contract.
use Rattle.compare_step.specs.Compare.{look, found}
use Rattle.compare_step.proofs.look.Goals as goal

pub returns : goal.returns
unfolding look found
returns c =
    rw (c.known-known.ensures, c.fits.ensures, c.best.ensures.value, c.first_difference-difference.ensures)
