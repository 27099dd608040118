-- `adaptive::fast::greatest` meets its contract: before turn j no magnitude of the first j words is above m.
use Prim.Native.Nat.{◌+◌, ◌-◌, ◌≤◌}
use Rattle.adaptive.specs.Fast.{Small}
use Rattle.adaptive.proofs.fast.greatest.Given as goal

abbrev pub invariant-loop-j : goal.invariant-loop-j
invariant-loop-j l = (l.j ≤ 59) × Small l.exc l.from l.j (l.m + 1)

abbrev pub decreases-loop-j : goal.decreases-loop-j
decreases-loop-j l = 59 - l.j
