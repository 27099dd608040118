-- `job_step::own_output` meets its contract.
use Rattle.job_step.specs.Step.{own_output}
use Rattle.job_step.proofs.own_output.Goals as goal

pub returns : goal.returns
unfolding own_output
returns c =
    rw (c.like-3.ensures, c.like-2.ensures, c.like.ensures, c.frame_form-form.ensures)
