-- `replay::tally::Tally::count` meets its contract: each test picks its case of the definition.
use mathlib.Core.Path.{◌∙◌}
use borrow.Author.Tests.{lt-ltb, le-ltb}
use Rattle.replay.specs.Replay.{count}
use Rattle.replay.proofs.tally.Tally.count.Goals as goal

pub returns-then-differs : goal.returns-then-differs
unfolding count
returns-then-differs c = rw (lt-ltb _ _ c.if-row-lt32.true, c.if-differs.true) (c.count_at-then-differs.ensures ∙ rw c.count_at.ensures)

pub returns-else-differs : goal.returns-else-differs
unfolding count
returns-else-differs c = rw (lt-ltb _ _ c.if-row-lt32.true, c.if-differs.false) c.count_at.ensures

pub returns-else-row-lt32 : goal.returns-else-row-lt32
unfolding count
returns-else-row-lt32 c = rw (le-ltb _ _ c.if-row-lt32.false)
