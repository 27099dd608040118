-- `job::known` meets its contract.
use Rattle.job.specs.Job.{known}
use Rattle.job.proofs.known.Goals as goal

pub returns : goal.returns
unfolding known
returns c = rw c.fields-values.ensures
