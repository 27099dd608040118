-- `pack::fits` meets its contract: its tests are those of the definition.
use Rattle.pack.specs.Laws.{each_fits}
use Rattle.pack.proofs.fits.Goals as goal

pub returns : goal.returns
returns c =
    each_fits c.args.p
