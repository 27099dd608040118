-- `replay::tally::Tally::count_at` meets its contract.
use Rattle.replay.specs.Replay.{count_at}
use Rattle.replay.proofs.tally.Tally.count_at.Goals as goal

pub returns : goal.returns
unfolding count_at
returns c = cc
