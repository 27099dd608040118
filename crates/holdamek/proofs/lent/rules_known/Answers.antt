-- `holdamek::lent::rules_known` meets its contract.
use Rattle.holdamek.proofs.lent.rules_known.Goals as goal

pub returns : goal.returns
returns c = rw (← c.known.ensures, ← c.known-2.ensures)
