-- `adaptive::interpolate` meets its contract: before turn i the sum is that of the first i pairs of terms.
use mathlib.Core.Path.{◌≡◌}
use Prim.Native.Nat.{◌+◌, ◌-◌, ◌*◌, ◌≤◌}
use lib.IntN.{pos}
use Rattle.laws.specs.Lists.{at}
use Rattle.laws.specs.Loops.{steps}
use Rattle.basic_op.specs.Ops.{l_mac}
use Rattle.adaptive.proofs.interpolate.Given as goal

abbrev pub invariant-loop-i : goal.invariant-loop-i
invariant-loop-i l =
    (l.i ≤ 10)
    × (l.s ≡ steps (λ k t. l_mac (l_mac t (at l.exc (l.x - k)) (at l.b30 (l.phase + 3 * k))) (at l.exc (l.x + 1 + k)) (at l.b30 (3 - l.phase + 3 * k))) l.i (pos 0))

abbrev pub decreases-loop-i : goal.decreases-loop-i
decreases-loop-i l = 10 - l.i
