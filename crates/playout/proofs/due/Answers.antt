-- `playout::due` meets its contract: no sum of 64 bits wraps.
use mathlib.Core.Path.{refl}
use Rattle.playout.proofs.due.Goals as goal

pub returns : goal.returns
returns c = refl
