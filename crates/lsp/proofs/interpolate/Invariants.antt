-- `lsp::interpolate` meets its contract: the first i words are set.
use mathlib.Core.Path.{◌≡◌}
use Prim.Native.Nat.{◌-◌, ◌≤◌}
use lib.IntN.{pos}
use lib.ListN.{replicate}
use lib.Signed.{shr_z}
use Rattle.laws.specs.Lists.{at, filled}
use Rattle.basic_op.specs.Ops.{add}
use Rattle.lsp.proofs.interpolate.Given as goal

abbrev pub invariant-loop-i : goal.invariant-loop-i
invariant-loop-i l = (l.i ≤ 10) × (l.out ≡ filled (λ k. add (shr_z (at l.prev k) 2) (shr_z (at l.cur k) 2)) l.i (replicate 10 (pos 0)))

abbrev pub decreases-loop-i : goal.decreases-loop-i
decreases-loop-i l = 10 - l.i
