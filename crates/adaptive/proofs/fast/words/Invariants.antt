-- `adaptive::fast::words` meets its contract: before turn n it has gone from the first `start` words to the first n, and all that is read is small.
use Prim.Native.Nat.{◌+◌, ◌-◌, ◌≤◌}
use Rattle.adaptive.specs.Fast.{filtered, Small, Continues}
use Rattle.adaptive.proofs.fast.words.Given as goal

abbrev pub invariant-loop-n : goal.invariant-loop-n
invariant-loop-n l = (l.n ≤ l.end) × (Small l.exc (l.from - l.k - 9) 59 16384 × Continues (λ j e. filtered l.c l.offset (l.from + j - l.k) e) l.from l.start l.n l.initial.exc l.exc)

abbrev pub decreases-loop-n : goal.decreases-loop-n
decreases-loop-n l = l.end - l.n
