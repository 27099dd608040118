-- `adaptive::rest` meets its contract: before turn n it has gone from the first `done` words to the first n.
use Prim.Native.Nat.{◌+◌, ◌-◌, ◌≤◌}
use Rattle.adaptive.specs.Adaptive.{interpolate}
use Rattle.adaptive.specs.Fast.{Continues}
use Rattle.adaptive.proofs.rest.Given as goal

abbrev pub invariant-loop-n : goal.invariant-loop-n
invariant-loop-n l = (l.n ≤ 40) × Continues (λ j e. interpolate l.b30 l.phase (l.from + j - l.k) e) l.from l.done l.n l.initial.exc l.exc

abbrev pub decreases-loop-n : goal.decreases-loop-n
decreases-loop-n l = 40 - l.n
