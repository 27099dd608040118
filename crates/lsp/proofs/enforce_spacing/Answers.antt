-- `lsp::enforce_spacing` meets its contract: a row that is spaced stays as it is.
use mathlib.Core.Path.{sym, ◌∙◌}
use mir.Facts.{to_z-of_z}
use Rattle.lsp.specs.Laws.{stays}
use Rattle.lsp.proofs.enforce_spacing.Goals as goal

pub returns-then-spaced : goal.returns-then-spaced
returns-then-spaced c = stays _ _ (sym (rw (to_z-of_z c.ranges.spacing) at c.spaced.ensures) ∙ c.if-spaced.true)

pub returns : goal.returns
returns c = rw (to_z-of_z c.ranges.spacing) at c.spread.ensures
