-- `adaptive::fast::dot` meets its contract: before turn j the sum is that of the first j products, and fits.
use mathlib.Core.Path.{◌≡◌}
use Prim.Native.Nat.{◌-◌, ◌≤◌}
use Rattle.adaptive.specs.Fast.{dot}
use Rattle.adaptive.proofs.fast.dot.Given as goal

abbrev pub invariant-loop-j : goal.invariant-loop-j
invariant-loop-j l = (l.j ≤ 32) × (l.s ≡ dot l.c l.exc l.from l.j)

abbrev pub decreases-loop-j : goal.decreases-loop-j
decreases-loop-j l = 32 - l.j
