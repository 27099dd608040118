-- `lsp::shortfall` meets its contract: a difference and a sum.
use mathlib.Core.Path.{◌∙◌}
use mir.Syntax.{w16}
use mir.Facts.{to_z-of_z}
use Rattle.laws.specs.Back.{via}
use Rattle.lsp.proofs.shortfall.Goals as goal

pub returns : goal.returns
returns c =
    via w16 c.add.result c.add.type_inv ∙ (c.add.ensures ∙ rw (via w16 c.sub.result c.sub.type_inv, c.sub.ensures, to_z-of_z c.ranges.lower, to_z-of_z c.ranges.upper, to_z-of_z c.ranges.spacing))
