-- `call::goes_on` meets its contract: the tests are those of the definition.
use mathlib.Core.Path.{refl}
use Rattle.call.specs.Chunk.{goes_on}
use Rattle.call.proofs.goes_on.Goals as goal

pub returns : goal.returns
unfolding goes_on
returns c = refl
