-- `lsp::codebook_sum` meets its contract: the three rows that it names.
use mathlib.Core.Path.{◌∙◌}
use Rattle.lsp.specs.Lsp.{codebook_sum}
use Rattle.lsp.proofs.codebook_sum.Goals as goal

pub returns : goal.returns
unfolding codebook_sum
returns c =
    c.stages.ensures
    ∙ rw (c.lsp_cb2-upper.ensures, c.lsp_cb2-lower.ensures, c.lsp_cb1-first.ensures)
