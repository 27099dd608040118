-- `lsp::keep_distances` meets its contract: the first k places after the first are done.
use mathlib.Core.Path.{◌≡◌}
use Prim.Native.Nat.{◌+◌, ◌-◌, ◌≤◌}
use Rattle.laws.specs.Lists.{at}
use Rattle.laws.specs.Loops.{run}
use Rattle.lsp.specs.Lsp.{keep_distance}
use Rattle.lsp.proofs.keep_distances.Given as goal

abbrev pub invariant-loop-k : goal.invariant-loop-k
invariant-loop-k l = (l.k ≤ 9) × (l.out ≡ run (λ j o. keep_distance l.distance (at o j) (at o (1 + j))) 1 l.k l.initial.out)

abbrev pub decreases-loop-k : goal.decreases-loop-k
decreases-loop-k l = 9 - l.k
