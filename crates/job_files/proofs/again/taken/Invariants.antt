-- Each turn but the last leaves fewer bytes to read. What it has is what reads leave.
use Rattle.job_files.specs.Reads.{Reads}
use Rattle.job_files.proofs.again.taken.Given as goal

abbrev pub invariant-loop-a : goal.invariant-loop-a
invariant-loop-a l = Reads l.at l.a

abbrev pub decreases-loop-a : goal.decreases-loop-a
decreases-loop-a l = l.before
