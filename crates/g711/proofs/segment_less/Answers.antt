-- `g711::segment_less` meets its contract.
use native.Mathlib.Omega.{arith}
use borrow.Author.Tests.{lt-ltb, le-ltb}
use Rattle.g711.specs.Fast.{segment_less}
use Rattle.g711.proofs.segment_less.Goals as goal

pub returns-then-x-limit : goal.returns-then-x-limit
unfolding segment_less
returns-then-x-limit c = (rw (lt-ltb _ _ c.if-x-limit.true), omega arith)

pub returns-else-x-limit : goal.returns-else-x-limit
unfolding segment_less
returns-else-x-limit c = (rw (le-ltb _ _ c.if-x-limit.false), omega arith)
