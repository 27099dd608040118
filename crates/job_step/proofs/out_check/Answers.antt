-- `job_step::out_check` meets its contract.
use borrow.Author.Tests.{eq-eqb, ne_eqb}
use Rattle.job_step.specs.Step.{out_check}
use Rattle.job_step.proofs.out_check.Goals as goal

pub returns-then-p-eq0 : goal.returns-then-p-eq0
unfolding out_check
returns-then-p-eq0 c = rw (c.answer.ensures, c.own_output.ensures, eq-eqb _ _ c.if-p-eq0.true)

pub returns : goal.returns
unfolding out_check
returns c = rw (c.answer-2.ensures, c.own_tail.ensures, ne_eqb _ _ c.if-p-eq0.false)
