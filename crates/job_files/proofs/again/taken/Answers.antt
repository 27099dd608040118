-- Nothing is read before the loop.
use Rattle.job_files.specs.Reads.{none}
use Rattle.job_files.proofs.again.taken.Goals as goal

pub loop-a-init : goal.loop-a-init
loop-a-init c = none _
