-- `lsp::stages` meets its contract: the first i words are set.
use mathlib.Core.Path.{◌≡◌}
use Prim.Native.Nat.{◌-◌, ◌≤◌}
use mathlib.Core.Bool.{cond}
use lib.Dec.{ltb}
use lib.IntN.{pos}
use lib.ListN.{replicate}
use Rattle.laws.specs.Lists.{at, filled}
use Rattle.basic_op.specs.Ops.{add}
use Rattle.lsp.proofs.stages.Given as goal

abbrev pub invariant-loop-i : goal.invariant-loop-i
invariant-loop-i l = (l.i ≤ 10) × (l.out ≡ filled (λ j. add (at l.first j) (at (cond (ltb j 5) l.lower l.upper) j)) l.i (replicate 10 (pos 0)))

abbrev pub decreases-loop-i : goal.decreases-loop-i
decreases-loop-i l = 10 - l.i
