-- `slots::same_samples` meets its contract: the first k samples are compared.
use Prim.Native.Nat.{◌-◌, ◌≤◌}
use mathlib.Core.Path.{◌≡◌}
use Rattle.compare_step.specs.Slots.{same_samples}
use Rattle.compare_step.proofs.slots.same_samples.Given as goal

abbrev pub invariant-loop-k : goal.invariant-loop-k
invariant-loop-k l = (l.k ≤ 80) × ((l.n ≤ l.k) × (l.n ≡ same_samples l.y l.z l.k))

abbrev pub decreases-loop-k : goal.decreases-loop-k
decreases-loop-k l = 80 - l.k
