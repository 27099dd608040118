-- `lsp::cosines` meets its contract: the first i words are set.
use mathlib.Core.Path.{◌≡◌}
use Prim.Native.Nat.{◌-◌, ◌≤◌}
use lib.IntN.{pos}
use lib.ListN.{replicate}
use Rattle.laws.specs.Lists.{at, filled}
use Rattle.basic_op.specs.Ops.{mult}
use Rattle.lsp.specs.Lsp.{cosine}
use Rattle.lsp.proofs.cosines.Given as goal

abbrev pub invariant-loop-i : goal.invariant-loop-i
invariant-loop-i l = (l.i ≤ 10) × (l.out ≡ filled (λ j. cosine (mult (at l.lsf j) l.scale)) l.i (replicate 10 (pos 0)))

abbrev pub decreases-loop-i : goal.decreases-loop-i
decreases-loop-i l = 10 - l.i
