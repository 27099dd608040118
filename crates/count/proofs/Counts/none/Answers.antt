-- `Counts::none` meets its contract: the counts are 0.
use mathlib.Core.Path.{refl}
use Rattle.count.specs.Count.{no_counts}
use Rattle.count.proofs.Counts.none.Goals as goal

pub returns : goal.returns
unfolding no_counts
returns c = refl
