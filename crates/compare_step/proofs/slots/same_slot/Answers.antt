-- `slots::same_slot` meets its contract: the words of both slots are compared.
use Rattle.std.specs.Cmp.Lexicographic.{pointwise}
use Rattle.std.specs.Ordering.{int_eq}
use Rattle.std.proofs.Common.{◌*◌, ◌∙◌}
use Rattle.state.specs.Same.{same_parts}
use Rattle.compare_step.specs.Slots.{slot_length, slot, same_slot}
use Rattle.compare_step.proofs.slots.same_slot.Goals as goal

pub returns : goal.returns
unfolding slot same_slot
returns c =
    let s = c.args.s.now in
    same_parts s s (slot_length * c.args.i) (slot_length * c.args.j) slot_length _ (c.eq.ensures ∙ (λ k. pointwise int_eq (c.slot.ensures k) (c.slot-2.ensures k)))
