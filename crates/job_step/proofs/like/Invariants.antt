-- `job_step::like` meets its contract: the bytes passed fit.
use Rattle.std.specs.Prelude.{◌≡◌, drop}
use Rattle.job_step.specs.Step.{like}
use Rattle.job_step.proofs.like.Given as goal

abbrev pub invariant-loop-i : goal.invariant-loop-i
invariant-loop-i l = like l.text l.form ≡ like (drop l.i l.text) (drop l.i l.form)
