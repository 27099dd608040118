-- `job_step::due` meets its contract.
use Rattle.job_step.specs.Step.{due}
use Rattle.std.proofs.Common.{rules}
use Rattle.job_step.proofs.due.Goals as goal

pub returns : goal.returns
unfolding due
returns c = search rules
