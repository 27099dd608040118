-- `job::sum_fits` meets its contract.
use Rattle.job.specs.Laws.{sum_is}
use Rattle.job.proofs.sum_fits.Goals as goal

pub returns : goal.returns
returns c =
    sum_is c.args.bytes.now _ _ c.requires c.number.ensures c.crc32.ensures
