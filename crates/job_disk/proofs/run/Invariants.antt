-- Between two parts OUT has what the place counts, and no state is due.
use Rattle.job_disk.specs.Disk.{Between}
use Rattle.job_disk.proofs.run.Given as goal

abbrev pub invariant-loop : goal.invariant-loop
invariant-loop l = Between l.r
