-- `line::opening` meets its contract: each arm is a case of the definition.
use Rattle.std.proofs.Common.{arith, ne_eqb}
use Rattle.line.specs.Line.{opening}
use Rattle.line.proofs.opening.Goals as goal

pub returns-in-0 : goal.returns-in-0
unfolding opening
returns-in-0 c = rw c.in-0.is

pub returns-in-1 : goal.returns-in-1
unfolding opening
returns-in-1 c = rw c.in-1.is

pub returns-in-2 : goal.returns-in-2
unfolding opening
returns-in-2 c = rw c.in-2.is

pub returns-in_default : goal.returns-in_default
unfolding opening
returns-in_default c = rw (ne_eqb c.args.kind 0 (λ e. omega arith), ne_eqb c.args.kind 1 (λ e. omega arith), ne_eqb c.args.kind 2 (λ e. omega arith))
