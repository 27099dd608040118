-- `job_step::one` meets its contract: the tests are those of the definition.
use Rattle.job_step.specs.Step.{one}
use Rattle.std.proofs.Common.{rules}
use Rattle.job_step.proofs.one.Goals as goal

pub returns : goal.returns
unfolding one
returns c = search rules
