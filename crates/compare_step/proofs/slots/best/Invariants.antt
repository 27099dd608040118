-- `slots::best` meets its contract: of the first i slots it is the first with the most.
use mathlib.Core.Path.{◌≡◌}
use mathlib.Core.Bool.{cond}
use Prim.Native.Nat.{◌-◌, ◌≤◌, ◌<◌}
use Rattle.laws.specs.Loops.{steps}
use lib.Signed.{lt_z}
use Rattle.compare_step.specs.Slots.{fit}
use Rattle.compare_step.proofs.slots.best.Given as goal

abbrev pub invariant-loop-i : goal.invariant-loop-i
invariant-loop-i l = (l.i ≤ 8) × ((l.j < 8) × (l.j ≡ steps (λ k n. cond (lt_z (fit l.s n) (fit l.s k)) k n) l.i 0))

abbrev pub decreases-loop-i : goal.decreases-loop-i
decreases-loop-i l = 8 - l.i
