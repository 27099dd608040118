-- `fixed::position` meets its contract. Assumes nothing.
use Rattle.std.proofs.Common.{arith}
use Rattle.fixed.specs.Fixed.{position}
use Rattle.fixed.specs.Laws.{position_last}
use Rattle.fixed.proofs.position.Goals as goal

pub returns-in-0 : goal.returns-in-0
unfolding position
returns-in-0 c = rw c.in-0.is

pub returns-in-1 : goal.returns-in-1
unfolding position
returns-in-1 c = rw c.in-1.is

pub returns-in-2 : goal.returns-in-2
unfolding position
returns-in-2 c = rw c.in-2.is

pub returns-in_default : goal.returns-in_default
returns-in_default c = position_last _ _ (λ e. omega arith) (λ e. omega arith) (λ e. omega arith)
