-- No more is left than there was.
use Rattle.job_files.specs.Reads.{reads_left}
use Rattle.job_files.proofs.again.place.Goals as goal

pub overflow_sub-at : goal.overflow_sub-at
overflow_sub-at c = reads_left c.requires
