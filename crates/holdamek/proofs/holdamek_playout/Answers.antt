-- `holdamek_playout` meets its contract: the answer of `playout::playout`, by its two cases.
use Rattle.holdamek.specs.Lent.{lend_playout}
use Rattle.holdamek.proofs.holdamek_playout.Goals as goal

pub returns-in-Err : goal.returns-in-Err
unfolding lend_playout
returns-in-Err c = rw (← c.in-Err.ensures, c.number.ensures)

pub returns-in-Ok : goal.returns-in-Ok
unfolding lend_playout
returns-in-Ok c = rw (← c.in-Ok.ensures)
