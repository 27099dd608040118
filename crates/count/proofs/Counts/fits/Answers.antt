-- `Counts::fits` meets its contract: the tests are those of the definition.
use Rattle.count.specs.Count.{fits}
use Rattle.count.proofs.Counts.fits.Goals as goal

pub returns : goal.returns
unfolding fits
returns c = rw c.subframes.ensures
