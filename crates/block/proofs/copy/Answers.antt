-- `block::copy` meets its contract: the whole block is written, or nothing.
use Rattle.std.proofs.Common.{◌∙◌}
use Rattle.block.specs.Laws.{copy_all, copy_none}
use Rattle.block.proofs.copy.Goals as goal

pub returns-then-b-v : goal.returns-then-b-v
returns-then-b-v c = c.copy_from_slice.ensures.after ∙ copy_all _ _ c.if-b-v.true

pub returns-else-b-v : goal.returns-else-b-v
returns-else-b-v c = copy_none _ _ c.if-b-v.false
