-- `arrival_line::separates` meets its contract: the tests are those of the definition.
use mathlib.Core.Path.{refl}
use Rattle.arrival_line.specs.ArrivalLine.{separates}
use Rattle.arrival_line.proofs.separates.Goals as goal

pub returns : goal.returns
unfolding separates
returns c = refl
