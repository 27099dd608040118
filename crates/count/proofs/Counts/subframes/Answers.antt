-- `Counts::subframes` meets its contract: five numbers of 32 bits have their sum in 64.
use mathlib.Core.Path.{refl}
use Rattle.count.specs.Count.{subframes}
use Rattle.count.proofs.Counts.subframes.Goals as goal

pub returns : goal.returns
unfolding subframes
returns c = refl
