-- `lsp_ma::predicted` meets its contract: three calls.
use mathlib.Core.Path.{◌∙◌}
use mir.Syntax.{w16, w32}
use mir.Facts.{to_z-of_z}
use Rattle.laws.specs.Back.{via}
use Rattle.lsp_ma.proofs.predicted.Goals as goal

pub returns : goal.returns
returns c =
    let sum = c.add_past in
    let first = c.l_mult in
    via w16 c.extract_h.result c.extract_h.type_inv ∙ (c.extract_h.ensures ∙ rw (via w32 sum.result sum.type_inv, sum.ensures, via w32 first.result first.type_inv, first.ensures, to_z-of_z c.ranges.l, to_z-of_z c.ranges.complement))
