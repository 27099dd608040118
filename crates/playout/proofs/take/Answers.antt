-- `playout::take` meets its contract.
use mathlib.Core.Path.{sym}
use Rattle.playout.specs.Laws.{take_in, take_in_past}
use Rattle.playout.proofs.take.Goals as goal

pub returns-then-i-kinds : goal.returns-then-i-kinds
unfolding take_in
returns-then-i-kinds c = rw (c.kept.ensures, c.due.ensures)

pub returns-else-i-kinds : goal.returns-else-i-kinds
returns-else-i-kinds c = sym (take_in_past _ _ _ _ _ c.if-i-kinds.false)
