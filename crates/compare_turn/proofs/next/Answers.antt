-- `compare_turn::next` meets its contract: a case for each.
use Rattle.compare_turn.specs.Turn.{next}
use Rattle.compare_turn.proofs.next.Goals as goal

pub returns-in-Wait : goal.returns-in-Wait
unfolding next
returns-in-Wait c = rw (← c.from-far.ensures, c.in-Wait.is)

pub returns-in-Ready : goal.returns-in-Ready
unfolding next
returns-in-Ready c = rw (← c.from-far.ensures, c.in-Ready.is, ← c.from-call.ensures) c.with_far.ensures

pub returns-in-Bad : goal.returns-in-Bad
unfolding next
returns-in-Bad c = rw (← c.from-far.ensures, c.in-Bad.is, ← c.from-call.ensures) c.with_far-in-Bad.ensures

pub returns-in-End : goal.returns-in-End
unfolding next
returns-in-End c = rw (← c.from-far.ensures, c.in-End.is, ← c.from-call.ensures) c.without_far.ensures
