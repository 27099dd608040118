-- `lsp_ma::invert_ma_prediction` meets its contract: the first i words are set.
use mathlib.Core.Path.{◌≡◌}
use Prim.Native.Nat.{◌-◌, ◌≤◌}
use lib.IntN.{pos}
use lib.ListN.{replicate}
use Rattle.laws.specs.Lists.{at, filled}
use Rattle.basic_op.specs.Ops.{l_mult, l_shl, extract_h, l_deposit_h}
use Rattle.lsp_ma.specs.Ma.{subtract_past}
use Rattle.lsp_ma.proofs.invert_ma_prediction.Given as goal

abbrev pub invariant-loop-i : goal.invariant-loop-i
invariant-loop-i l = (l.i ≤ 10) × (l.out ≡ filled (λ j. extract_h (l_shl (l_mult (extract_h (subtract_past l.past l.weights j (l_deposit_h (at l.omega j)))) (at l.inverse j)) (pos 3))) l.i (replicate 10 (pos 0)))

abbrev pub decreases-loop-i : goal.decreases-loop-i
decreases-loop-i l = 10 - l.i
