-- `lsp::spread_pair` meets its contract: one branch for each outcome of its test.
use mathlib.Core.Path.{◌∙◌}
use Prim.Native.Nat.{◌+◌}
use mir.Syntax.{w16}
use mir.Facts.{to_z-of_z}
use Rattle.laws.specs.Lists.{at}
use Rattle.laws.specs.Back.{via}
use Rattle.lsp.specs.Laws.{too_close, wide_enough}
use Rattle.lsp.proofs.spread_pair.Goals as goal

pub returns-then-short-gt0 : goal.returns-then-short-gt0
returns-then-short-gt0 c =
    let l = c.args.l.now in
    let h = c.sar16-half in
    let a = via w16 (at l c.args.k) c.lower-1.given in
    let b = via w16 (at l (c.args.k + 1)) c.upper-1.given in
    too_close _ _ l (via w16 c.shortfall-short.result c.shortfall-short.type_inv ∙ (c.shortfall-short.ensures ∙ rw (a, b, to_z-of_z c.ranges.spacing))) c.if-short-gt0.true
    (via w16 c.sub.result c.sub.type_inv ∙ (c.sub.ensures ∙ rw (a, via w16 h.result h.type_inv, h.ensures))) (via w16 c.add.result c.add.type_inv ∙ (c.add.ensures ∙ rw (b, via w16 h.result h.type_inv, h.ensures)))

pub returns-else-short-gt0 : goal.returns-else-short-gt0
returns-else-short-gt0 c =
    let l = c.args.l.now in
    let a = via w16 (at l c.args.k) c.lower-1.given in
    let b = via w16 (at l (c.args.k + 1)) c.upper-1.given in
    wide_enough _ _ l (via w16 c.shortfall-short.result c.shortfall-short.type_inv ∙ (c.shortfall-short.ensures ∙ rw (a, b, to_z-of_z c.ranges.spacing))) c.if-short-gt0.false
