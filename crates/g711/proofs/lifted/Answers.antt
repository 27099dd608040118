-- `g711::lifted` meets its contract.
use Rattle.std.proofs.Common.{arith, lt-ltb, le-ltb}
use Rattle.g711.specs.Fast.{lifted}
use Rattle.g711.proofs.lifted.Goals as goal

pub returns-then-x-limit : goal.returns-then-x-limit
unfolding lifted
returns-then-x-limit c = (rw (lt-ltb _ _ c.if-x-limit.true), omega arith)

pub returns-else-x-limit : goal.returns-else-x-limit
unfolding lifted
returns-else-x-limit c = (rw (le-ltb _ _ c.if-x-limit.false), omega arith)
