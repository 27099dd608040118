-- `slots::vacate` meets its contract.
use Rattle.compare_step.proofs.slots.vacate.Goals as goal

pub returns-then-not-stays : goal.returns-then-not-stays
returns-then-not-stays c = rw (← c.stays.ensures, c.if-not-stays.true) c.put_word.ensures

pub returns-else-not-stays : goal.returns-else-not-stays
returns-else-not-stays c = rw (← c.stays.ensures, c.if-not-stays.false)
