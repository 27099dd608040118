-- `compare_turn::without_far` meets its contract: a case for each.
use Rattle.compare_turn.specs.Turn.{without_far}
use Rattle.compare_turn.proofs.without_far.Goals as goal

pub returns-in-Wait : goal.returns-in-Wait
unfolding without_far
returns-in-Wait c = rw c.in-Wait.is

pub returns-in-Ready : goal.returns-in-Ready
unfolding without_far
returns-in-Ready c = rw c.in-Ready.is

pub returns-in-Bad : goal.returns-in-Bad
unfolding without_far
returns-in-Bad c = rw c.in-Bad.is

pub returns-in-End : goal.returns-in-End
unfolding without_far
returns-in-End c = rw c.in-End.is
