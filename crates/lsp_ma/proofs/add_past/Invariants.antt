-- `lsp_ma::add_past` meets its contract: the terms of the first k rows are in the total.
use mathlib.Core.Path.{◌≡◌}
use Prim.Native.Nat.{◌-◌, ◌≤◌}
use Rattle.laws.specs.Lists.{at}
use Rattle.laws.specs.Loops.{steps}
use Rattle.basic_op.specs.Ops.{l_mac}
use Rattle.lsp_ma.specs.Ma.{row}
use Rattle.lsp_ma.proofs.add_past.Given as goal

abbrev pub invariant-loop-k : goal.invariant-loop-k
invariant-loop-k l = (l.k ≤ 4) × (l.total ≡ steps (λ j s. l_mac s (at (row l.past j) l.i) (at (row l.weights j) l.i)) l.k l.sum)

abbrev pub decreases-loop-k : goal.decreases-loop-k
decreases-loop-k l = 4 - l.k
