-- `g711::lowest` meets its contract.
use mathlib.Core.Path.{refl}
use lib.Bits.{and_le_l}
use Rattle.g711.specs.Fast.{lowest}
use Rattle.g711.proofs.lowest.Goals as goal

pub returns-then-x-eq0 : goal.returns-then-x-eq0
unfolding lowest
returns-then-x-eq0 c = rw c.if-x-eq0.true

pub overflow_sub-result-2 : goal.overflow_sub-result-2
overflow_sub-result-2 c = and_le_l _ _

pub returns : goal.returns
unfolding lowest
returns c = refl
