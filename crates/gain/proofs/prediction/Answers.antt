-- The answers of `gain::prediction`.
use Prim.Native.Nat.{◌-◌}
use mathlib.Core.Path.{◌∙◌}
use native.Mathlib.Omega.{arith}
use mir.Syntax.{w16, w32}
use mir.Facts.{to_z-of_z}
use Rattle.laws.specs.Loops.{steps, steps_none, steps_turn, ended_from}
use Rattle.laws.specs.Back.{via2}
use Rattle.basic_op.specs.Ops.{l_mac}
use Rattle.gain.specs.Gain.{prediction}
use Rattle.std.proofs.Common.{rules}
use Rattle.gain.proofs.prediction.Goals as goal

pub loop-k-preserved : goal.loop-k-preserved
loop-k-preserved c = (
  search rules,
  steps_turn _ _ _ _ _ c.loop-k.invariant.1
      (via2 w16 w16 w32 (l_mac _) _ _ c.l_mac-sum.result c.l_mac-arg-1.given c.l_mac-arg-in-loop-k-1.given c.l_mac-sum.type_inv c.l_mac-sum.ensures),
)

pub returns : goal.returns
unfolding prediction
returns c =
    ended_from (steps _) 4 c.loop-k.invariant.1 (omega arith)
    ∙ rw (to_z-of_z c.ranges.l, c.gain_prediction_coefficients-b.ensures)

pub loop-k-init : goal.loop-k-init
loop-k-init c = (search rules, steps_none _ _)
