-- `compare_step::next_status` meets its contract: each test picks its case.
use Rattle.compare_step.specs.Compare.{next_status}
use Rattle.compare_step.proofs.next_status.Goals as goal

pub returns-then-x : goal.returns-then-x
unfolding next_status
returns-then-x c = rw c.if-x.true

pub returns-then-x-taken : goal.returns-then-x-taken
unfolding next_status
returns-then-x-taken c = rw (c.if-x.false, ← c.taken.ensures, c.if-x-taken.true)

pub returns-else-x-taken : goal.returns-else-x-taken
unfolding next_status
returns-else-x-taken c = rw (c.if-x.false, ← c.taken.ensures, c.if-x-taken.false)
