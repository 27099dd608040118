-- `inverse::inside` meets its contract: the first k samples are tested.
use Prim.Native.Nat.{◌-◌, ◌≤◌}
use mathlib.Core.Path.{◌≡◌}
use Rattle.inverse.specs.Inverse.{inside}
use Rattle.inverse.proofs.inside.Given as goal

abbrev pub invariant-loop-s : goal.invariant-loop-s
invariant-loop-s l = l.ok ≡ inside l.y l.s-index
