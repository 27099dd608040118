-- `lsp_ma::ma_prediction` meets its contract: the first i words are set.
use mathlib.Core.Path.{◌≡◌}
use Prim.Native.Nat.{◌-◌, ◌≤◌}
use lib.IntN.{pos}
use lib.ListN.{replicate}
use Rattle.laws.specs.Lists.{at, filled}
use Rattle.basic_op.specs.Ops.{l_mult, extract_h}
use Rattle.lsp_ma.specs.Ma.{add_past}
use Rattle.lsp_ma.proofs.ma_prediction.Given as goal

abbrev pub invariant-loop-i : goal.invariant-loop-i
invariant-loop-i l = (l.i ≤ 10) × (l.out ≡ filled (λ j. extract_h (add_past l.past l.weights j (l_mult (at l.l j) (at l.complement j)))) l.i (replicate 10 (pos 0)))

abbrev pub decreases-loop-i : goal.decreases-loop-i
decreases-loop-i l = 10 - l.i
