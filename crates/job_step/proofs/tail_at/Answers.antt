-- `job_step::tail_at` meets its contract.
use Rattle.job_step.specs.Step.{tail_at}
use Rattle.job_step.proofs.tail_at.Goals as goal

pub returns : goal.returns
unfolding tail_at
returns c = c.saturating_sub.ensures
