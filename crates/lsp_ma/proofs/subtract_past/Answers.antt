-- The answers of `lsp_ma::subtract_past`.
use mathlib.Core.Path.{◌∙◌}
use mir.Syntax.{w16, w32}
use mir.Facts.{to_z-of_z}
use Rattle.laws.specs.Loops.{steps, steps_none, steps_turn, ended_from}
use Rattle.laws.specs.Back.{via2}
use Rattle.basic_op.specs.Ops.{l_msu}
use Rattle.lsp_ma.specs.Ma.{subtract_past}
use native.Mathlib.Omega.{arith}
use Rattle.std.proofs.Common.{rules}
use Rattle.lsp_ma.proofs.subtract_past.Goals as goal

pub loop-k-preserved : goal.loop-k-preserved
loop-k-preserved c = (
  search rules,
  steps_turn _ _ _ _ _ c.loop-k.invariant.1
      (via2 w16 w16 w32 (l_msu _) _ _ c.l_msu-total.result c.l_msu-arg-1.given c.l_msu-arg-in-loop-k-1.given c.l_msu-total.type_inv c.l_msu-total.ensures),
)

pub returns : goal.returns
unfolding subtract_past
returns c = ended_from (steps _) 4 c.loop-k.invariant.1 (omega arith) ∙ rw (to_z-of_z c.ranges.sum)

pub loop-k-init : goal.loop-k-init
loop-k-init c = (search rules, steps_none _ _)
