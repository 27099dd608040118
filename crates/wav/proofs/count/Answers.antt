-- `wav::count` meets its contract: the test picks its case of the definition.
use mathlib.Core.Path.{sym}
use borrow.Author.Tests.{eq-eqb, ne_eqb}
use Rattle.wav.specs.Wav.{count}
use Rattle.wav.proofs.count.Goals as goal

pub returns-then-each-eq0 : goal.returns-then-each-eq0
unfolding count
returns-then-each-eq0 c = sym (rw (eq-eqb _ _ c.if-each-eq0.true))

pub returns : goal.returns
unfolding count
returns c = sym (rw (ne_eqb _ _ c.if-each-eq0.false))
