-- `lsp::order_and_bound` meets its contract: sorted, then each bound in turn.
use mathlib.Core.Path.{◌∙◌}
use mir.Syntax.{w16}
use mir.Facts.{to_z-of_z}
use Rattle.laws.specs.Back.{via2}
use Rattle.basic_op.specs.Ops.{lesser, greater}
use Rattle.basic_op.specs.Laws.{lesser_is, greater_is}
use Rattle.lsp.specs.Laws.{bounded}
use Rattle.lsp.proofs.order_and_bound.Goals as goal

pub returns : goal.returns
returns c =
    bounded _ _ _ _ _ _ c.sort-ordered.ensures.value
    (via2 w16 w16 w16 greater _ _ c.max.result c.max-arg-1.given c.ranges.low.sfits c.max.type_inv (c.max.ensures.value ∙ greater_is _ _))
    (c.keep_distances-bounded.ensures ∙ rw (to_z-of_z c.ranges.distance))
    (via2 w16 w16 w16 lesser _ _ c.min.result c.min-arg-1.given c.ranges.high.sfits c.min.type_inv (c.min.ensures.value ∙ lesser_is _ _))
