-- `gain::error_sum` meets its contract: before turn k the sum is that of the first k errors. Assumes nothing.
use Prim.Native.Nat.{◌-◌, ◌≤◌}
use mathlib.Core.Path.{◌≡◌}
use lib.IntN.{pos}
use Rattle.laws.specs.Lists.{at}
use Rattle.laws.specs.Loops.{steps}
use Rattle.basic_op.specs.Ops.{l_add}
use Rattle.gain.proofs.error_sum.Given as goal

abbrev pub invariant-loop-u : goal.invariant-loop-u
invariant-loop-u l = (l.u-index ≤ 4) × (l.sum ≡ steps (λ i s. l_add s (at l.u-items i)) l.u-index (pos 0))

abbrev pub decreases-loop-u : goal.decreases-loop-u
decreases-loop-u l = 4 - l.u-index
