-- `basic_op::low16` meets its contract. Assumes nothing.
use Rattle.std.proofs.Common.{sym, ◌∙◌, to_z-of_z}
use Rattle.basic_op.specs.Low.{low_bits}
use Rattle.basic_op.proofs.low16.Goals as goal

pub returns : goal.returns
returns c = c.cast_unsigned.ensures ∙ rw (to_z-of_z c.ranges.x) (sym (low_bits c.args.x c.ranges.x.sfits))
