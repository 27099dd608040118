-- `fixed::codevector` meets its contract: before turn k the first k pulses are set. Assumes nothing.
use Prim.Native.Nat.{◌-◌, ◌≤◌}
use mathlib.Core.Path.{◌≡◌}
use lib.IntN.{pos}
use lib.ListN.{set, replicate}
use Rattle.laws.specs.Loops.{steps}
use Rattle.fixed.specs.Fixed.{position, pulse}
use Rattle.fixed.proofs.codevector.Given as goal

abbrev pub invariant-loop-k : goal.invariant-loop-k
invariant-loop-k at = (at.k ≤ 4) × (at.code ≡ steps (λ j l. set l (position at.index j) (pulse at.positive at.sign j)) at.k (replicate 40 (pos 0)))

abbrev pub decreases-loop-k : goal.decreases-loop-k
decreases-loop-k l = 4 - l.k
