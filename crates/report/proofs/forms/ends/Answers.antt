-- `report::forms::ends` meets its contract.
use Rattle.print.specs.Laws.{front}
use Rattle.report.specs.Forms.{ends}
use Rattle.std.proofs.Common.{rules}
use Rattle.report.proofs.forms.ends.Goals as goal

pub returns-then-far : goal.returns-then-far
unfolding ends
returns-then-far c = (search rules, rw c.if-far.true (front c.labelled.ensures.1))

pub returns : goal.returns
unfolding ends
returns c = (search rules, rw c.if-far.false (front c.labelled-2.ensures.1))
