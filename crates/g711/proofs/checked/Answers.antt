-- `g711::checked` meets its contract: each test picks its case.
use Rattle.std.proofs.Common.{eq-eqb, ne_eqb}
use Rattle.g711.specs.G711.{refusal}
use Rattle.g711.specs.Law.{number_known}
use Rattle.g711.proofs.checked.Goals as goal

pub returns-in_default-clause-refused : goal.returns-in_default-clause-refused
unfolding refusal
returns-in_default-clause-refused c = rw c.in_default.ensures.1

pub returns-then-bytes-samples-clause-refused : goal.returns-then-bytes-samples-clause-refused
unfolding refusal
returns-then-bytes-samples-clause-refused c = rw (← c.in-Ok.ensures, number_known c.in-Ok.law, ne_eqb _ _ c.if-bytes-samples.true)

pub returns-clause-refused : goal.returns-clause-refused
unfolding refusal
returns-clause-refused c = rw (← c.in-Ok.ensures, number_known c.in-Ok.law, eq-eqb _ _ c.if-bytes-samples.false)
