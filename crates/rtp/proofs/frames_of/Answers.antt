-- `rtp::frames_of` meets its contract: each remainder picks its case of the definition.
use Rattle.rtp.specs.Laws.{frames_none, frames_two, frames_refused}
use Rattle.rtp.proofs.frames_of.Goals as goal

pub returns-then-rest-eq0 : goal.returns-then-rest-eq0
returns-then-rest-eq0 c = frames_none _ c.if-rest-eq0.true

pub returns-then-rest-eq2 : goal.returns-then-rest-eq2
returns-then-rest-eq2 c = frames_two _ c.if-rest-eq2.true

pub returns : goal.returns
returns c = frames_refused _ c.if-rest-eq0.false c.if-rest-eq2.false
