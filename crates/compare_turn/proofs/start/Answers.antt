-- `compare_turn::start` meets its contract.
use Rattle.compare_turn.specs.Turn.{start}
use Rattle.compare_turn.proofs.start.Goals as goal

pub returns : goal.returns
unfolding start
returns c = rw c.none.ensures
