-- `playout::enough` meets its contract.
use Rattle.playout.specs.Playout.{enough}
use Rattle.playout.proofs.enough.Goals as goal

pub returns : goal.returns
unfolding enough
returns c = let k = c.kinds.ensures in (rw (c.lost.ensures, k), k)
