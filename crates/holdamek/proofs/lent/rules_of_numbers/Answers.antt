-- `holdamek::lent::rules_of_numbers` meets its contract.
use Rattle.holdamek.proofs.lent.rules_of_numbers.Goals as goal

pub returns : goal.returns
returns c = cc (c.of_number-a.ensures, c.of_number-b.ensures)
