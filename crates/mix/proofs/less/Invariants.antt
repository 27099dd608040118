-- `mix::less` meets its contract: before turn i the first i samples of what the leg heard are written.
use Prim.Native.Nat.{◌+◌, ◌-◌, ◌≤◌}
use mathlib.Core.Path.{◌≡◌}
use lib.IntN.{◌-ℤ◌}
use lib.ListN.{length}
use lib.Seq.{paste}
use Rattle.laws.specs.Lists.{at, tab}
use Rattle.basic_op.specs.Ops.{sat16}
use Rattle.mix.proofs.less.Given as goal

abbrev pub invariant-loop-i : goal.invariant-loop-i
invariant-loop-i l = (l.i ≤ 80) × (length l.heard ≡ length l.initial.heard) × (l.heard ≡ paste l.initial.heard l.from (tab 80 (λ j. sat16 (at l.total j -ℤ at l.legs (l.from + j)))) l.i)

abbrev pub decreases-loop-i : goal.decreases-loop-i
decreases-loop-i l = 80 - l.i
