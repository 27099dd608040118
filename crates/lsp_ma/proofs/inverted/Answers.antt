-- `lsp_ma::inverted` meets its contract: six calls.
use mathlib.Core.Path.{◌∙◌}
use mir.Syntax.{w16, w32}
use mir.Facts.{to_z-of_z}
use Rattle.laws.specs.Back.{via}
use Rattle.lsp_ma.proofs.inverted.Goals as goal

pub returns : goal.returns
returns c =
    let shifted = c.l_shl in
    let scaled = c.l_mult-scaled in
    let upper = c.extract_h in
    let rest = c.subtract_past-residual in
    let first = c.l_deposit_h in
    via w16 c.extract_h-2.result c.extract_h-2.type_inv
    ∙ (c.extract_h-2.ensures
    ∙ rw (via w32 shifted.result shifted.type_inv, shifted.ensures, via w32 scaled.result scaled.type_inv, scaled.ensures, via w16 upper.result upper.type_inv, upper.ensures, via w32 rest.result rest.type_inv, rest.ensures, via w32 first.result first.type_inv, first.ensures, to_z-of_z c.ranges.omega, to_z-of_z c.ranges.inverse))
