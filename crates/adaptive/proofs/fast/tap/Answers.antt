-- `adaptive::fast::tap` meets its contract. Assumes nothing.
use borrow.Author.Tests.{lt-ltb, le-ltb}
use Rattle.adaptive.specs.Fast.{tap}
use Rattle.std.proofs.Common.{rules}
use Rattle.adaptive.proofs.fast.tap.Goals as goal

pub returns-then-j-lt10 : goal.returns-then-j-lt10
unfolding tap
returns-then-j-lt10 c = (rw (lt-ltb _ 10 c.if-j-lt10.true), search rules)

pub returns : goal.returns
unfolding tap
returns c = (rw (le-ltb _ 10 c.if-j-lt10.false), search rules)
