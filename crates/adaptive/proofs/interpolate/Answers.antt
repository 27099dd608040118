-- The answers of `adaptive::interpolate`.
use mathlib.Core.Path.{◌∙◌}
use Prim.Native.Nat.{◌-◌}
use native.Mathlib.Omega.{arith}
use mir.Syntax.{w16, w32}
use Rattle.laws.specs.Loops.{steps_none, steps_turn, steps_then}
use Rattle.laws.specs.Back.{via, via2, via3}
use Rattle.basic_op.specs.Ops.{l_mac, round}
use Rattle.adaptive.specs.Adaptive.{interpolate}
use Rattle.std.proofs.Common.{rules}
use Rattle.adaptive.proofs.interpolate.Goals as goal

pub loop-i-preserved : goal.loop-i-preserved
loop-i-preserved c = (
  search rules,
  steps_turn _ _ _ _ _ c.loop-i.invariant.1
      (via3 w16 w16 w32 l_mac _ _ _ _ c.l_mac-s-in-loop-i.result
      (via2 w16 w16 w32 (l_mac _) _ _ c.l_mac-s.result c.l_mac-arg-1.given c.l_mac-arg-in-loop-i-1.given c.l_mac-s.type_inv c.l_mac-s.ensures)
      c.l_mac-arg-in-loop-i-2-1.given c.l_mac-arg-in-loop-i-3-1.given c.l_mac-s-in-loop-i.type_inv c.l_mac-s-in-loop-i.ensures),
)

pub returns : goal.returns
unfolding interpolate
returns c = steps_then round _ _ 10 _ _ _ c.loop-i.invariant.1 (omega arith) (via w16 _ c.round.type_inv ∙ c.round.ensures)

pub loop-i-init : goal.loop-i-init
loop-i-init c = (search rules, steps_none _ _)
