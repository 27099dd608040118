-- `depth_table::began` meets its contract: below 0 is 0.
use Rattle.std.proofs.Common.{rules}
use Rattle.depth_table.specs.Table.{began}
use Rattle.depth_table.proofs.began.Goals as goal

pub returns : goal.returns
unfolding began
returns c = search rules
