-- `lsp::new_row` meets its contract: 10 first, and then 5.
use mathlib.Core.Path.{◌∙◌}
use Rattle.lsp.specs.Lsp.{new_row}
use Rattle.lsp.proofs.new_row.Goals as goal

pub returns : goal.returns
unfolding new_row
returns c = c.enforce_spacing-2.ensures ∙ rw (c.enforce_spacing.ensures, c.codebook_sum-l.ensures)
