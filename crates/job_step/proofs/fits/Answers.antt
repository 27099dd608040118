-- `job_step::fits` meets its contract.
use borrow.Author.Tests.{eq-eqb, ne_eqb}
use Rattle.job_step.specs.Step.{fits}
use Rattle.job_step.proofs.fits.Goals as goal

pub returns-then-b-eq104 : goal.returns-then-b-eq104
unfolding fits
returns-then-b-eq104 c = rw (eq-eqb _ _ c.if-b-eq104.true) c.is_digit.ensures

pub returns-else-b-eq104 : goal.returns-else-b-eq104
unfolding fits
returns-else-b-eq104 c = rw (ne_eqb _ _ c.if-b-eq104.false)
