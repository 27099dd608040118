-- `crc32::crc32` meets its contract: the sum of none is 0.
use Rattle.crc32.specs.Crc32.{crc32, more}
use Rattle.crc32.proofs.crc32.Goals as goal

pub returns : goal.returns
unfolding crc32 more
returns c = c.more.ensures
