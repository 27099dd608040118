-- `crc32::bit` meets its contract.
use borrow.Author.Tests.{eq-eqb, ne_eqb}
use Rattle.crc32.specs.Crc32.{bit}
use Rattle.crc32.proofs.bit.Goals as goal

pub returns-then-c-eq1 : goal.returns-then-c-eq1
unfolding bit
returns-then-c-eq1 c = rw (eq-eqb _ _ c.if-c-eq1.true)

pub returns-else-c-eq1 : goal.returns-else-c-eq1
unfolding bit
returns-else-c-eq1 c = rw (ne_eqb _ _ c.if-c-eq1.false)
