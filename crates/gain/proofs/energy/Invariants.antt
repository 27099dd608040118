-- `gain::energy` meets its contract: before turn k the sum is that of the first k squares, without saturation. Assumes nothing.
use Prim.Native.Nat.{◌-◌, ◌≤◌}
use Rattle.gain.specs.Laws.{Squares}
use Rattle.gain.proofs.energy.Given as goal

abbrev pub invariant-loop-x : goal.invariant-loop-x
invariant-loop-x l = (l.x-index ≤ 40) × Squares l.x-items l.x-index l.sum

abbrev pub decreases-loop-x : goal.decreases-loop-x
decreases-loop-x l = 40 - l.x-index
