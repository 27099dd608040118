-- `adaptive::fast::size_sum` meets its contract: before turn j the sum is that of the first j taps, at most 2 ^ 15 each.
use mathlib.Core.Path.{◌≡◌}
use Prim.Native.Nat.{◌-◌, ◌*◌, ◌≤◌}
use Rattle.adaptive.specs.Fast.{size_sum}
use Rattle.adaptive.proofs.fast.size_sum.Given as goal

abbrev pub invariant-loop-x : goal.invariant-loop-x
invariant-loop-x l = (l.x-index ≤ 32) × ((l.s ≤ 32768 * l.x-index) × (l.s ≡ size_sum l.c l.x-index))

abbrev pub decreases-loop-x : goal.decreases-loop-x
decreases-loop-x l = 32 - l.x-index
