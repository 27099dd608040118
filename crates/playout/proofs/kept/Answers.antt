-- `playout::kept` meets its contract.
use borrow.Author.Tests.{le-leb, lt-leb}
use Rattle.playout.proofs.kept.Goals as goal

pub returns-then-time-due : goal.returns-then-time-due
returns-then-time-due c = rw (le-leb c.args.time c.args.due c.if-time-due.true)

pub returns-else-time-due : goal.returns-else-time-due
returns-else-time-due c = rw (lt-leb c.args.time c.args.due c.if-time-due.false)
