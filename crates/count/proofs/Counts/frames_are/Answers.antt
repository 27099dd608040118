-- `Counts::frames_are` meets its contract: the test is that of the definition.
use mathlib.Core.Path.{refl}
use Rattle.count.specs.Count.{frames_are}
use Rattle.count.proofs.Counts.frames_are.Goals as goal

pub returns : goal.returns
unfolding frames_are
returns c = refl
