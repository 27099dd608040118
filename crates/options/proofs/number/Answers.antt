-- `options::number` meets its contract: the test picks the case of the definition.
use native.Mathlib.Omega.{arith}
use borrow.Author.Tests.{eq-eqb, ne_eqb}
use Rattle.options.proofs.number.Goals as goal

pub returns-then-n-before : goal.returns-then-n-before
returns-then-n-before c = rw (eq-eqb c.args.n c.args.before (omega arith))

pub returns-else-n-before : goal.returns-else-n-before
returns-else-n-before c = rw (ne_eqb c.args.n c.args.before (λ e. omega arith))
