-- `compare_step::take_candidates` meets its contract.
use Rattle.compare_step.proofs.take_candidates.Goals as goal

pub returns-then-taken : goal.returns-then-taken
returns-then-taken c = rw (← c.taken.ensures, c.if-taken.true) c.candidates.ensures

pub returns-else-taken : goal.returns-else-taken
returns-else-taken c = rw (← c.taken.ensures, c.if-taken.false)
