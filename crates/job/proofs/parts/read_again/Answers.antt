-- `job::parts::read_again` meets its contract.
use Rattle.job.specs.PartLaws.{again_is}
use Rattle.job.proofs.parts.read_again.Goals as goal

pub returns : goal.returns
returns c = again_is _ c.args.bytes.now _ _ c.min-n.ensures c.more.ensures
