-- `replay::tally::Tally::differ` meets its contract: the test picks the case of the definition.
use borrow.Author.Tests.{lt-ltb, le-ltb}
use Rattle.replay.specs.Replay.{differ}
use Rattle.replay.proofs.tally.Tally.differ.Goals as goal

pub returns-then-row-lt32 : goal.returns-then-row-lt32
unfolding differ
returns-then-row-lt32 c = rw (lt-ltb _ _ c.if-row-lt32.true)

pub returns-else-row-lt32 : goal.returns-else-row-lt32
unfolding differ
returns-else-row-lt32 c = rw (le-ltb _ _ c.if-row-lt32.false)
