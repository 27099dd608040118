-- Each chunk leaves fewer bytes.
use Rattle.std.specs.Prelude.{⊤}
use Rattle.replay_jobs.proofs.copies.bytes.Given as goal

abbrev pub invariant-loop-left : goal.invariant-loop-left
invariant-loop-left l = ⊤

abbrev pub decreases-loop-left : goal.decreases-loop-left
decreases-loop-left l = l.left
