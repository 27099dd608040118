-- `compare_step::slots_left` meets its contract.
use Rattle.compare_step.proofs.slots_left.Goals as goal

pub returns-then-found : goal.returns-then-found
returns-then-found c = rw c.if-found.true c.only_fitting.ensures

pub returns-else-found : goal.returns-else-found
returns-else-found c = rw c.if-found.false
