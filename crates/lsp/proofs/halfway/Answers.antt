-- `lsp::halfway` meets its contract: two shifts and a sum.
use mathlib.Core.Path.{◌∙◌}
use mir.Syntax.{w16}
use mir.Facts.{to_z-of_z}
use Rattle.laws.specs.Back.{via}
use Rattle.lsp.proofs.halfway.Goals as goal

pub returns : goal.returns
returns c =
    let a = c.sar16 in
    let b = c.sar16-2 in
    via w16 c.add.result c.add.type_inv ∙ (c.add.ensures ∙ rw (via w16 a.result a.type_inv, a.ensures, via w16 b.result b.type_inv, b.ensures, to_z-of_z c.ranges.prev, to_z-of_z c.ranges.cur))
