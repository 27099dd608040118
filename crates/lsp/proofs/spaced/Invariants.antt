-- `lsp::spaced` meets its contract: the first k pairs are tested.
use mathlib.Core.Path.{◌≡◌}
use Prim.Native.Nat.{◌-◌, ◌≤◌}
use Rattle.laws.specs.Loops.{nowhere}
use Rattle.lsp.specs.Laws.{close}
use Rattle.lsp.proofs.spaced.Given as goal

abbrev pub invariant-loop-k : goal.invariant-loop-k
invariant-loop-k l = (l.k ≤ 9) × (l.ok ≡ nowhere (close l.spacing l.l) l.k)

abbrev pub decreases-loop-k : goal.decreases-loop-k
decreases-loop-k l = 9 - l.k
