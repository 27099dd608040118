-- The answers of `lsp_ma::add_past`.
use mathlib.Core.Path.{◌∙◌}
use mir.Syntax.{w16, w32}
use mir.Facts.{to_z-of_z}
use Rattle.laws.specs.Loops.{steps, steps_none, steps_turn, ended_from}
use Rattle.laws.specs.Back.{via2}
use Rattle.basic_op.specs.Ops.{l_mac}
use Rattle.lsp_ma.specs.Ma.{add_past}
use native.Mathlib.Omega.{arith}
use Rattle.std.proofs.Common.{rules}
use Rattle.lsp_ma.proofs.add_past.Goals as goal

pub loop-k-preserved : goal.loop-k-preserved
loop-k-preserved c = (
  search rules,
  steps_turn _ _ _ _ _ c.loop-k.invariant.1
      (via2 w16 w16 w32 (l_mac _) _ _ c.l_mac-total.result c.l_mac-arg-1.given c.l_mac-arg-in-loop-k-1.given c.l_mac-total.type_inv c.l_mac-total.ensures),
)

pub returns : goal.returns
unfolding add_past
returns c = ended_from (steps _) 4 c.loop-k.invariant.1 (omega arith) ∙ rw (to_z-of_z c.ranges.sum)

pub loop-k-init : goal.loop-k-init
loop-k-init c = (search rules, steps_none _ _)
