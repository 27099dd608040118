-- `lsp::decode_lsf` meets its contract: the prediction within its bounds.
use mathlib.Core.Path.{◌∙◌}
use mir.Syntax.{w16}
use Rattle.laws.specs.Back.{via}
use Rattle.lsp.specs.Lsp.{decode_lsf}
use Rattle.lsp.proofs.decode_lsf.Goals as goal

pub returns : goal.returns
unfolding decode_lsf
returns c =
    let distance = c.scalars-distance in
    let high = c.scalars-high in
    let low = c.scalars-low in
    c.order_and_bound.ensures
    ∙ rw (via w16 distance.result distance.type_inv, distance.ensures, via w16 high.result high.type_inv, high.ensures, via w16 low.result low.type_inv, low.ensures, c.ma_prediction-omega.ensures, c.lsp_ma_sum-complement.ensures, c.lsp_ma-weights.ensures)
