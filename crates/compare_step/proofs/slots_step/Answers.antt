-- `compare_step::slots_step` meets its contract: what the calls give, one after the other.
use mathlib.Core.Path.{ap, ◌∙◌}
use mathlib.Core.Bool.{cond}
use mathlib.Core.List.{List}
use lib.IntN.{ℤ}
use Rattle.compare_step.specs.Slots.{only_fitting, best, computed}
use Rattle.compare_step.specs.declared.Seen.{Seen}
use Rattle.compare_step.specs.Compare.{known, found, look, slots_left, slots_tried}
use Rattle.compare_step.proofs.slots_step.Goals as goal

pub returns : goal.returns
unfolding slots_left look
returns c =
    let g = c.args in
    let e = c.slots_tried.ensures in
    let l = c.look-x.ensures ∙ ap (look g.y.now g.h) e in
    let f = ap (λ (x : Seen). x.found) l in
    record { value = l; s_after = c.slots_left.ensures ∙ (λ i. cond (f i) (only_fitting (e i)) (e i)); out_after = λ h. c.hand_out.ensures h ∙ ap (λ (x : List ℤ). cond (known g.h) (computed x (best x)) g.out.now) e }
