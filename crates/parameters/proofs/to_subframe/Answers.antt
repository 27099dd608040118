-- `parameters::to_subframe` meets its contract: field by field.
use Rattle.parameters.specs.Parameters.{subframe}
use Rattle.std.proofs.Common.{rules}
use Rattle.parameters.proofs.to_subframe.Goals as goal

pub returns : goal.returns
unfolding subframe
returns c = search rules
