-- What it has is what one read more leaves.
use Rattle.job_files.specs.Reads.{more}
use Rattle.job_files.proofs.again.count.Goals as goal

pub returns : goal.returns
returns c = rw c.read_again.ensures (more c.requires _)
