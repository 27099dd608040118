-- `line_step::one_more` meets its contract.
use Rattle.std.proofs.Common.{◌∙◌, arith}
use Rattle.line_step.specs.Laws.{saturated}
use Rattle.line_step.proofs.one_more.Goals as goal

pub returns : goal.returns
returns c = c.saturating_add.ensures ∙ saturated c.args.n (omega arith)
