-- `slots::all_tried` meets its contract: before turn i the first i slots are behind the frame.
use Prim.Native.Nat.{◌*◌, ◌-◌, ◌≤◌}
use mathlib.Core.Path.{◌≡◌}
use lib.ListN.{length}
use Rattle.laws.specs.Loops.{steps}
use Rattle.block.specs.Block.{put}
use Rattle.compare_step.specs.Slots.{slot_length, slot, tried}
use Rattle.compare_step.proofs.slots.all_tried.Given as goal

abbrev pub invariant-loop-i : goal.invariant-loop-i
invariant-loop-i l = (l.i ≤ 8) × ((length l.s ≡ length l.initial.s) × (l.s ≡ steps (λ k x. put x (slot_length * k) (tried l.t l.v l.y (slot x k))) l.i l.initial.s))

abbrev pub decreases-loop-i : goal.decreases-loop-i
decreases-loop-i l = 8 - l.i
