-- `rtp::find_of` meets its contract: each test picks its case of the definition.
use mathlib.Core.Path.{◌∙◌}
use native.Mathlib.Omega.{arith}
use Rattle.rtp.specs.Laws.{find_refused, find_past, starts, find_voice, find_sid}
use Rattle.rtp.proofs.find_of.Goals as goal

pub returns-then-counted-ne0 : goal.returns-then-counted-ne0
returns-then-counted-ne0 c = c.refused.ensures ∙ find_refused _ _ c.frames_of-counted.ensures c.if-counted-ne0.true

pub returns-then-counted-index : goal.returns-then-counted-index
returns-then-counted-index c = c.refused-then-counted-index.ensures ∙ find_past _ _ c.frames_of-counted.ensures c.if-counted-ne0.false c.if-counted-index.true

pub overflow_mul-start : goal.overflow_mul-start
overflow_mul-start c = omega (arith, starts _ _ c.frames_of-counted.ensures c.if-counted-ne0.false c.if-counted-index.false)

pub returns-then-index-n : goal.returns-then-index-n
returns-then-index-n c = find_voice _ _ c.frames_of-counted.ensures c.if-counted-ne0.false c.if-counted-index.false c.if-index-n.true

pub returns : goal.returns
returns c = find_sid _ _ c.frames_of-counted.ensures c.if-counted-ne0.false c.if-counted-index.false c.if-index-n.false
