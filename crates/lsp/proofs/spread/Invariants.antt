-- `lsp::spread` meets its contract: the first k pairs are apart.
use mathlib.Core.Path.{◌≡◌}
use Prim.Native.Nat.{◌-◌, ◌≤◌}
use Rattle.laws.specs.Loops.{steps}
use Rattle.lsp.specs.Lsp.{spread_pair}
use Rattle.lsp.proofs.spread.Given as goal

abbrev pub invariant-loop-k : goal.invariant-loop-k
invariant-loop-k l = (l.k ≤ 9) × (l.out ≡ steps (spread_pair l.spacing) l.k l.initial.out)

abbrev pub decreases-loop-k : goal.decreases-loop-k
decreases-loop-k l = 9 - l.k
