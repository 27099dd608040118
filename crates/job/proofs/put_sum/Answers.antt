-- `job::put_sum` meets its contract.
use Rattle.job.specs.Laws.{front_sum}
use Rattle.job.proofs.put_sum.Goals as goal

pub returns : goal.returns
returns c = front_sum c.args.out.now _ _ _ c.requires c.crc32-sum.ensures c.put_number.ensures
