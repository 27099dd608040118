-- `delay_line::by_rule` meets its contract.
use Rattle.delay_line.specs.DelayLine.{by_rule}
use Rattle.std.proofs.Common.{rules}
use Rattle.delay_line.proofs.by_rule.Goals as goal

pub returns : goal.returns
unfolding by_rule
returns c = search rules
