-- The answers of `lsp::stages`.
use mathlib.Core.Path.{refl, ◌∙◌}
use mir.Syntax.{w16}
use Rattle.laws.specs.Lists.{at, filled_none, fill, filled_end}
use Rattle.laws.specs.Back.{via2}
use Rattle.basic_op.specs.Ops.{add}
use native.Mathlib.Omega.{arith}
use Rattle.std.proofs.Common.{rules}
use Rattle.lsp.proofs.stages.Goals as goal

pub loop-i-preserved : goal.loop-i-preserved
loop-i-preserved c = (
  search rules,
  fill _ _ _ _ _ (search rules) c.loop-i.invariant.1
      (via2 w16 w16 w16 add (at c.args.first c.loop-i.i) c.second_stage.result c.add.result c.add-arg-1.given c.second_stage.type_inv c.add.type_inv c.add.ensures ∙ rw c.second_stage.ensures),
)

pub returns : goal.returns
returns c = filled_end _ _ 10 _ _ c.loop-i.invariant.1 (omega arith) refl

pub loop-i-init : goal.loop-i-init
loop-i-init c = (search rules, filled_none _ _)
