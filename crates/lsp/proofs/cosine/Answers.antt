-- `lsp::cosine` meets its contract: a point, its slope over the rest, and their sum.
use mathlib.Core.Path.{◌∙◌}
use Prim.Native.Nat.{◌%◌}
use mir.Syntax.{w16, w32}
use mir.Facts.{to_z-of_z}
use mir.ValLaws.{to_z_pos}
use Rattle.laws.specs.Back.{via}
use Rattle.lsp.specs.Lsp.{cosine}
use native.Mathlib.Omega.{arith}
use Rattle.lsp.proofs.cosine.Goals as goal

pub returns : goal.returns
unfolding cosine
returns c =
    let bits = c.low16-bits.result in
    let low = c.extract_l in
    let p = c.l_shr in
    let value = c.lsp_cosine in
    let slope = c.lsp_cosine_slope in
    via w16 c.add.result c.add.type_inv
    ∙ (c.add.ensures
    ∙ rw (via w16 low.result low.type_inv, low.ensures, via w32 p.result p.type_inv, p.ensures, via w32 c.l_mult-p.result c.l_mult-p.type_inv, c.l_mult-p.ensures, to_z_pos w16 (bits % 256) (omega arith), via w16 slope.result slope.type_inv, slope.ensures, via w16 value.result value.type_inv, value.ensures, c.cosine_point-point.ensures, c.low16-bits.ensures, to_z-of_z c.ranges.freq))
