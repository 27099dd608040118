-- `compare_step::slots_tried` meets its contract.
use mathlib.Core.Path.{ap, ◌∙◌}
use Rattle.compare_step.specs.Slots.{all_tried}
use Rattle.compare_step.specs.Compare.{slots_tried}
use Rattle.compare_step.proofs.slots_tried.Goals as goal

pub returns-then-known : goal.returns-then-known
unfolding slots_tried
returns-then-known c =
    rw (← c.known.ensures, c.if-known.true) (c.all_tried.ensures ∙ ap (all_tried c.args.t.now c.args.v c.args.y.now) c.take_candidates.ensures)

pub returns-else-known : goal.returns-else-known
unfolding slots_tried
returns-else-known c = rw (← c.known.ensures, c.if-known.false) c.take_candidates.ensures
