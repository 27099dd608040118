-- The answers of `compare_step::slots::all_tried`.
use Prim.Native.Nat.{◌*◌, ◌-◌}
use mathlib.Core.Path.{◌≡◌, refl, ap, ◌∙◌}
use native.Mathlib.Omega.{arith}
use Rattle.laws.specs.Loops.{steps, steps_none, steps_turn, ended_from}
use Rattle.block.specs.Block.{put}
use Rattle.block.specs.Laws.{length_put}
use Rattle.compare_step.specs.Slots.{slot_length, slot, tried, all_tried}
use Rattle.std.proofs.Common.{rules}
use Rattle.compare_step.proofs.slots.all_tried.Goals as goal

pub loop-i-preserved : goal.loop-i-preserved
loop-i-preserved c =
    let e = c.put.ensures ∙ ap (put c.loop-i.s (slot_length * c.loop-i.i)) (c.tried-x.ensures ∙ ap (tried _ _ _) c.slot.ensures) in
    (search rules, (rw c.put.ensures (length_put _ _ _ ∙ c.loop-i.invariant.1.0), steps_turn _ c.loop-i.i _ _ _ c.loop-i.invariant.1.1 e))

pub returns : goal.returns
unfolding all_tried
returns c = let l = c.loop-i in let e : l.i ≡ 8 = omega arith in ended_from {n = l.i} (steps _) 8 l.invariant.1.1 e

pub loop-i-init : goal.loop-i-init
loop-i-init c = (search rules, (refl, steps_none _ _))
