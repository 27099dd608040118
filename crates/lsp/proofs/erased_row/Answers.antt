-- `lsp::erased_row` meets its contract: the weights and the inverse of one predictor.
use mathlib.Core.Path.{◌∙◌}
use mir.Facts.{to_z-of_z}
use Rattle.lsp.specs.Lsp.{erased_row}
use Rattle.lsp.proofs.erased_row.Goals as goal

pub returns : goal.returns
unfolding erased_row
returns c =
    c.invert_ma_prediction.ensures
    ∙ rw (c.lsp_ma_sum_inv-inverse.ensures, c.lsp_ma-weights.ensures, c.predictor_index-p.ensures, to_z-of_z c.ranges.predictor)
