-- `options::Asked::with_operand` meets its contract: each field in its place.
use Rattle.options.specs.Options.{with_operand}
use Rattle.options.proofs.Asked.with_operand.Goals as goal

pub returns : goal.returns
unfolding with_operand
returns c = cc
