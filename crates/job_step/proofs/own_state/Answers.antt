-- `job_step::own_state` meets its contract.
use Rattle.job_step.specs.Step.{own_state}
use Rattle.job_step.proofs.own_state.Goals as goal

pub returns : goal.returns
unfolding own_state
returns c = rw c.like.ensures
