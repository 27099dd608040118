-- `gain::prediction` meets its contract: before turn k the sum has the first k terms. Assumes nothing.
use Prim.Native.Nat.{◌-◌, ◌≤◌}
use mathlib.Core.Path.{◌≡◌}
use Rattle.laws.specs.Lists.{at}
use Rattle.laws.specs.Loops.{steps}
use Rattle.basic_op.specs.Ops.{l_mac}
use Rattle.gain.proofs.prediction.Given as goal

abbrev pub invariant-loop-k : goal.invariant-loop-k
invariant-loop-k it = (it.k ≤ 4) × (it.sum ≡ steps (λ i s. l_mac s (at it.b i) (at it.mem i)) it.k it.l)

abbrev pub decreases-loop-k : goal.decreases-loop-k
decreases-loop-k l = 4 - l.k
