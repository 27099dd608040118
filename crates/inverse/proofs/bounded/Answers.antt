-- `inverse::bounded` meets its contract: the sizes are compared with their limit.
use Rattle.inverse.specs.Inverse.{bounded}
use Rattle.inverse.proofs.bounded.Goals as goal

pub returns : goal.returns
unfolding bounded
returns c = rw c.size_sum.ensures
