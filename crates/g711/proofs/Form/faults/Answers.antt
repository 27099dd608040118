-- The answers of `g711::Form::faults`.
use mir.Syntax.{w16}
use Rattle.std.proofs.Common.{ap, ◌∙◌, arith}
use Rattle.std.specs.Int.Bits.{bit_or}
use Rattle.laws.specs.Back.{via}
use Rattle.laws.specs.Loops.{steps_none, steps_turn, ended}
use Rattle.g711.specs.Fast.{fault, faults}
use Rattle.g711.proofs.Form.faults.Goals as goal

pub loop-z-init : goal.loop-z-init
unfolding faults
loop-z-init c = steps_none _ _

pub loop-z-preserved : goal.loop-z-preserved
unfolding faults
loop-z-preserved c = steps_turn _ c.loop-z.z-index _ _ _ c.loop-z.invariant (ap (bit_or c.loop-z.found) (c.fault-found.ensures ∙ ap (fault c.args.self) (via w16 _ c.fault-arg-1.given)))

pub returns : goal.returns
returns c = ended (faults _ _) _ c.loop-z.invariant (omega arith)
