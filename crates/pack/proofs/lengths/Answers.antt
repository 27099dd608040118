-- `pack::lengths` meets its contract: each test picks its case of the definition.
use borrow.Author.Tests.{eq-eqb, ne_eqb}
use Rattle.pack.specs.Laws.{lengths}
use Rattle.pack.proofs.lengths.Goals as goal

pub returns-then-n-due : goal.returns-then-n-due
unfolding lengths
returns-then-n-due c = rw (ne_eqb _ _ c.if-n-due.true)

pub returns-then-bytes-ne10 : goal.returns-then-bytes-ne10
unfolding lengths
returns-then-bytes-ne10 c = rw (eq-eqb _ _ c.if-n-due.false, ne_eqb _ _ c.if-bytes-ne10.true)

pub returns : goal.returns
unfolding lengths
returns c = rw (eq-eqb _ _ c.if-n-due.false, eq-eqb _ _ c.if-bytes-ne10.false)
