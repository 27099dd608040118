-- `job::fits` meets its contract: the tests are those of the definition.
use Rattle.job.specs.Job.{fits}
use Rattle.job.proofs.fits.Goals as goal

pub returns : goal.returns
unfolding fits
returns c = rw (c.fits.ensures, c.frames_are.ensures)
