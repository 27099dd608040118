-- The answers of `replay::hex::field`.
use mathlib.Core.Path.{◌∙◌}
use native.Mathlib.Omega.{arith}
use Rattle.laws.specs.Loops.{steps, steps_none, steps_turn, ended_from}
use Rattle.replay.specs.Replay.{number}
use Rattle.replay.specs.Laws.{shift_in}
use Rattle.std.proofs.Common.{rules}
use Rattle.replay.proofs.hex.field.Goals as goal

pub loop-i-init : goal.loop-i-init
unfolding number
loop-i-init c = (search rules, steps_none _ _)

pub loop-i-preserved : goal.loop-i-preserved
unfolding number
loop-i-preserved c = (search rules, steps_turn _ _ _ _ _ c.loop-i.invariant.1 (shift_in _ _ c.value.ensures.1 ∙ rw (c.value.ensures.0, c.byte.ensures)))

pub returns : goal.returns
unfolding number
returns c = ended_from (steps _) _ c.loop-i.invariant.1 (omega arith)
