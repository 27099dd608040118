-- `holdamek_write_line` meets its contract: the answer of `line::write`, by its two cases.
use Rattle.holdamek.specs.Lent.{lend_write}
use Rattle.holdamek.proofs.holdamek_write_line.Goals as goal

pub returns-in-Err : goal.returns-in-Err
unfolding lend_write
returns-in-Err c = rw (← c.write.ensures, c.in-Err.is, c.number.ensures)

pub returns-in-Ok : goal.returns-in-Ok
unfolding lend_write
returns-in-Ok c = rw (← c.write.ensures, c.in-Ok.is)
