-- `adaptive::fast::taps` meets its contract: before turn j the first j taps are written.
use mathlib.Core.Path.{◌≡◌}
use Prim.Native.Nat.{◌-◌, ◌≤◌}
use lib.IntN.{pos}
use lib.ListN.{replicate}
use Rattle.laws.specs.Lists.{at}
use Rattle.laws.specs.Loops.{run}
use Rattle.adaptive.specs.Fast.{tap}
use Rattle.adaptive.proofs.fast.taps.Given as goal

abbrev pub invariant-loop-j : goal.invariant-loop-j
invariant-loop-j l = (l.j ≤ 20) × (l.c ≡ run (λ k e. at l.b30 (tap l.phase k)) l.offset l.j (replicate 32 (pos 0)))

abbrev pub decreases-loop-j : goal.decreases-loop-j
decreases-loop-j l = 20 - l.j
