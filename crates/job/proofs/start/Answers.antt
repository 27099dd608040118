-- `job::start` meets its contract.
use Rattle.job.specs.Job.{start}
use Rattle.job.proofs.start.Goals as goal

pub returns : goal.returns
unfolding start
returns c = rw c.none.ensures
