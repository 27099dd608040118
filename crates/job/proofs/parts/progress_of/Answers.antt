-- `job::parts::progress_of` meets its contract.
use Rattle.std.proofs.Common.{refl}
use Rattle.job.specs.Part.{progress}
use Rattle.job.proofs.parts.progress_of.Goals as goal

pub returns : goal.returns
unfolding progress
returns c = refl
