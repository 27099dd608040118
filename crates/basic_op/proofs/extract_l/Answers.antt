-- `basic_op::extract_l` meets its contract. Assumes nothing.
use Rattle.std.proofs.Common.{◌∙◌}
use Rattle.std.specs.Int.{w16}
use Rattle.laws.specs.Back.{via}
use Rattle.basic_op.specs.Ops.{extract_l}
use Rattle.basic_op.specs.Low.{low_and}
use Rattle.basic_op.proofs.extract_l.Goals as goal

pub returns : goal.returns
unfolding extract_l
returns c = via w16 c.cast_signed.result c.cast_signed.type_inv ∙ c.cast_signed.ensures ∙ rw (low_and c.args.x c.ranges.x)
