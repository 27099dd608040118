-- `lsp::keep_distance` meets its contract: one branch for each outcome of its test.
use mathlib.Core.Path.{◌∙◌}
use mir.Syntax.{w16}
use mir.Facts.{to_z-of_z}
use Rattle.laws.specs.Back.{via}
use Rattle.lsp.specs.Laws.{too_near, far_enough}
use Rattle.lsp.proofs.keep_distance.Goals as goal

pub returns-then-sub-distance : goal.returns-then-sub-distance
returns-then-sub-distance c =
    via w16 c.add.result c.add.type_inv ∙ c.add.ensures ∙ rw (to_z-of_z c.ranges.previous, to_z-of_z c.ranges.distance)
    (too_near _ _ _ (via w16 c.sub.result c.sub.type_inv ∙ (c.sub.ensures ∙ rw (to_z-of_z c.ranges.next, to_z-of_z c.ranges.previous))) (to_z-of_z c.ranges.distance) c.if-sub-distance.true)

pub returns : goal.returns
returns c =
    to_z-of_z c.ranges.next
    ∙ far_enough _ _ _ (via w16 c.sub.result c.sub.type_inv ∙ (c.sub.ensures ∙ rw (to_z-of_z c.ranges.next, to_z-of_z c.ranges.previous))) (to_z-of_z c.ranges.distance) c.if-sub-distance.false
