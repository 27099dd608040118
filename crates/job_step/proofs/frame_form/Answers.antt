-- `job_step::frame_form` meets its contract: both parts stand in it.
use Rattle.job_step.specs.Step.{frame_form}
use Rattle.job_step.proofs.frame_form.Goals as goal

pub returns : goal.returns
unfolding frame_form
returns c = rw (c.copy-2.ensures.written, c.copy.ensures.written)
