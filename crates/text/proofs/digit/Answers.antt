-- `text::digit` meets its contract: the test picks its case of the definition.
use borrow.Author.Tests.{lt-ltb, le-ltb}
use native.Mathlib.Omega.{arith}
use Rattle.laws.specs.Digits.{digit}
use Rattle.text.proofs.digit.Goals as goal

pub returns-then-low-lt10 : goal.returns-then-low-lt10
unfolding digit
returns-then-low-lt10 c = rw (lt-ltb _ _ c.if-low-lt10.true)

pub returns-else-low-lt10 : goal.returns-else-low-lt10
unfolding digit
returns-else-low-lt10 c = rw (le-ltb _ _ c.if-low-lt10.false) (omega arith)
