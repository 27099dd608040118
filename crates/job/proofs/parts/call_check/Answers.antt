-- `job::parts::call_check` meets its contract: the tests are those of the definition.
use Rattle.job.specs.Part.{call_check}
use Rattle.job.proofs.parts.call_check.Goals as goal

pub returns-then-same : goal.returns-then-same
unfolding call_check
returns-then-same c = rw c.if-same.true

pub returns-else-same : goal.returns-else-same
unfolding call_check
returns-else-same c = rw c.if-same.false
