-- `block::put_word` meets its contract: one word, where the block has it.
use Rattle.std.proofs.Common.{arith, to_z-of_z, rules}
use Rattle.block.specs.Laws.{put_none, put_one}
use Rattle.block.proofs.put_word.Goals as goal

pub returns-then-n-b : goal.returns-then-n-b
returns-then-n-b c = rw (to_z-of_z c.ranges.v) (put_one _ _ _ (search rules))

pub returns-else-n-b : goal.returns-else-n-b
returns-else-n-b c = put_none _ _ _ (omega arith)
