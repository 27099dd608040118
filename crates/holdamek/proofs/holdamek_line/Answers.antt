-- `holdamek_line` meets its contract: the answer of `line::line`, by its two cases.
use Rattle.holdamek.specs.Lent.{lend_line}
use Rattle.holdamek.proofs.holdamek_line.Goals as goal

pub returns-in-Err : goal.returns-in-Err
unfolding lend_line
returns-in-Err c = rw (← c.line.ensures, c.in-Err.is, c.number.ensures)

pub returns-in-Ok : goal.returns-in-Ok
unfolding lend_line
returns-in-Ok c = rw (← c.line.ensures, c.in-Ok.is)
