-- `lsp::lsf_to_lsp` meets its contract: the scale is the block's.
use mathlib.Core.Path.{◌∙◌}
use mir.Syntax.{w16}
use Rattle.laws.specs.Back.{via}
use Rattle.lsp.proofs.lsf_to_lsp.Goals as goal

pub returns : goal.returns
returns c = c.cosines.ensures ∙ rw (via w16 c.scalars-scale.result c.scalars-scale.type_inv, c.scalars-scale.ensures)
