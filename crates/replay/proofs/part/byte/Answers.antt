-- `replay::part::byte` meets its contract.
use Rattle.replay.specs.Replay.{byte}
use Rattle.replay.proofs.part.byte.Goals as goal

pub returns : goal.returns
unfolding byte
returns c = cc
