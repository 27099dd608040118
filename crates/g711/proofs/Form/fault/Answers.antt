-- `g711::Form::fault` meets its contract.
use mir.Facts.{to_z-of_z}
use Rattle.std.proofs.Common.{◌∙◌}
use Rattle.g711.specs.Laws.{abs_of, fault_none, fault_one}
use Rattle.g711.proofs.Form.fault.Goals as goal

pub returns-then-x-low : goal.returns-then-x-low
returns-then-x-low c = fault_none _ _ _ _ (c.sized-x.ensures.0 ∙ rw (to_z-of_z c.ranges.z)) c.lowest-low.ensures (abs_of c.args.z c.ranges.z.sfits) c.if-x-low.true

pub returns-else-x-low : goal.returns-else-x-low
returns-else-x-low c = fault_one _ _ _ _ (c.sized-x.ensures.0 ∙ rw (to_z-of_z c.ranges.z)) c.lowest-low.ensures c.if-x-low.false
