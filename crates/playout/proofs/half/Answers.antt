-- `playout::half` meets its contract.
use Rattle.playout.specs.Least.{half}
use Rattle.playout.proofs.half.Goals as goal

pub returns-then-enough : goal.returns-then-enough
unfolding half
returns-then-enough c = rw c.if-enough.true

pub returns : goal.returns
unfolding half
returns c = rw c.if-enough.false
