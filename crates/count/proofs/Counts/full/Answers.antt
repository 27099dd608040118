-- `Counts::full` meets its contract: the tests are those of the definition.
use mathlib.Core.Path.{refl}
use Rattle.count.specs.Count.{full}
use Rattle.count.proofs.Counts.full.Goals as goal

pub returns : goal.returns
unfolding full
returns c = refl
