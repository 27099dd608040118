-- `slots::stays` meets its contract: before turn j the first j slots are compared.
use mathlib.Core.Path.{◌≡◌}
use mathlib.Core.Bool.{◌&&◌}
use Prim.Native.Nat.{◌-◌, ◌≤◌}
use Rattle.laws.specs.Loops.{nowhere}
use Rattle.compare_step.specs.Slots.{fits, same_slot}
use Rattle.compare_step.proofs.slots.stays.Given as goal

abbrev pub invariant-loop-j : goal.invariant-loop-j
invariant-loop-j l = (l.j ≤ l.i) × (l.ok ≡ nowhere (λ k. fits l.s k && same_slot l.s k l.i) l.j)

abbrev pub decreases-loop-j : goal.decreases-loop-j
decreases-loop-j l = l.i - l.j
