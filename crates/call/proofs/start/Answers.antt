-- `call::start` meets its contract.
use Rattle.call.specs.Call.{start}
use Rattle.call.proofs.start.Goals as goal

pub returns : goal.returns
unfolding start
returns c = rw c.none.ensures
