-- `compare_turn::far_at` meets its contract: each test picks its case of the definition.
use Rattle.far.specs.Laws.{taken_some}
use Rattle.compare_turn.specs.Turn.{far_at}
use Rattle.compare_turn.proofs.far_at.Goals as goal

pub returns-then-is_some : goal.returns-then-is_some
unfolding far_at
returns-then-is_some c = rw (← c.from-form.ensures, taken_some _ _ _ c.frame.ensures.frame_value, ← c.is_some.ensures, c.if-is_some.true)

pub returns-then-far-ended : goal.returns-then-far-ended
unfolding far_at
returns-then-far-ended c = rw (← c.from-form.ensures, taken_some _ _ _ c.frame.ensures.frame_value, ← c.is_some.ensures, c.if-is_some.false, c.if-far-ended.true)

pub returns : goal.returns
unfolding far_at
returns c = rw (← c.from-form.ensures, taken_some _ _ _ c.frame.ensures.frame_value, ← c.is_some.ensures, c.if-is_some.false, c.if-far-ended.false)
