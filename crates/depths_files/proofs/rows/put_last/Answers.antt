-- `depths_files::rows::put_last` meets its contract: the line is that of the depth that was found.
use Rattle.std.proofs.Common.{refl}
use Rattle.depths_files.specs.Laws.{left_fits, last_never, last_depth}
use Rattle.depths_files.proofs.rows.put_last.Goals as goal

pub overflow_cast-lost : goal.overflow_cast-lost
overflow_cast-lost c = rw c.lost.ensures (left_fits _ _ _ _ _ _ c.in-None.ensures c.requires)

pub returns-in-None : goal.returns-in-None
returns-in-None c = rw (last_never _ _ _ _ _ _ c.in-None.ensures refl) (rw c.lost.ensures at c.never.ensures)

pub returns-in-Some : goal.returns-in-Some
returns-in-Some c = rw (last_depth _ _ _ _ _ _ c.in-Some.ensures _ refl) c.least.ensures
