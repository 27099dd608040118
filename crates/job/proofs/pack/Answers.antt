-- `job::pack` meets its contract: the parts, written one behind another.
use Rattle.std.proofs.Common.{rules}
use Rattle.job.specs.Laws.{pack_whole}
use Rattle.std.proofs.Common.{rules}
use Rattle.job.proofs.pack.Goals as goal

pub returns : goal.returns
returns c =
    pack_whole _ _ c.put_head.new.out c.put_state.new.out _ c.put_head.ensures c.put_state.ensures c.put_sum.ensures (search rules)
