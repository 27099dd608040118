-- `Counts::numbers` meets its contract: its numbers in their order.
use mathlib.Core.Path.{refl}
use Rattle.count.specs.Count.{numbers}
use Rattle.count.proofs.Counts.numbers.Goals as goal

pub returns : goal.returns
unfolding numbers
returns c = refl
